use Rattle.std.proofs.Common.{take}
use Rattle.td_cli_host.specs.ServedInput.{AreCodesOf}
use Rattle.td_cli_host.proofs.served_input.codes_of.Given as goal

-- the codes so far are those of the modules so far
abbrev pub invariant-loop-format : goal.invariant-loop-format
invariant-loop-format l = AreCodesOf l.codes.items (take l.format-index l.formats)
