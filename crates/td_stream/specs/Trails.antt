-- The loads of a trail, the oldest first (own rule).
use Rattle.std.specs.Prelude.{List, [], ◌∷◌, ◌++◌}
use Rattle.td_stream.specs.declared.load.Load.{Load}
use Rattle.td_stream.specs.declared.made.Trail.{Trail}
use Rattle.td_stream.specs.declared.made.Trail.TheOpen.{Trail-F}
use Rattle.td_stream.specs.declared.made.Trail.TheFolds.{fold-Trail}

abbrev pub one_more : Trail-F (List Load) → List Load
one_more Trail-F.Start = []
one_more (Trail-F.Then before load) = before.value ++ load ∷ []

abbrev pub loads_in : Trail → List Load
loads_in = fold-Trail (List Load) one_more
