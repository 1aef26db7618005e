-- What memory is taken for where the arithmetic of a definition is looked at, beside its `where`.
use Rattle.std.specs.Prelude.{◌≢◌, ◌<◌, ◌⊎◌, length, None}
use Rattle.td_core.specs.Copying.{HasOperands}
use Rattle.td_arith.specs.Imports.{Body, Struct, Casetype}

-- a field; a switch with operands, a case or a `default`
abbrev pub HasInside : Body → Type 0
HasInside (Struct fs) = 0 < length fs
HasInside (Casetype switch cases default) = HasOperands switch ⊎ ((0 < length cases) ⊎ (default ≢ None))
