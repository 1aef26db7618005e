-- The sides of a comparison that is known.
use Rattle.td_arith.specs.Imports.{Subtract}
use Rattle.td_core.specs.Term.{Term, number, name, compute}
use Rattle.td_expr.specs.Facts.{no_span}
use Rattle.td_arith.specs.declared.comparisons.Side.{Side}
use Rattle.td_arith.specs.declared.comparisons.Side.TheVariants.{Whole, Difference, Name, Number}

abbrev pub side_of : Side → Term
side_of (Whole e) = e.now
side_of (Difference a b) = compute Subtract no_span a.now b.now
side_of (Name level w most) = name level w most
side_of (Number n w) = number n w
