use Rattle.std.proofs.Common.{◌≡◌, ◌++◌, length, drop, None}
use Rattle.td_elab_rules.specs.Breach.{first_of}
use Rattle.td_elab_rules.specs.BitFields.{gathered}
use Rattle.td_elab_rules.specs.Fields.{fields_breaches, fields_taken, flats_of, fields_core}
use Rattle.td_elab_fields.specs.Scopes.{fields_scope}
use Rattle.td_elab_fields.proofs.fields.gathered.Given as goal

-- what is left of the fields decides; where there are none, no unit is open
abbrev pub invariant-loop-tree : goal.invariant-loop-tree
invariant-loop-tree l =
    let rest = drop l.tree-index l.trees in
    record {
      core : l.gathering.fields ++ gathered l.gathering.unit (flats_of l.names l.known l.bindings.scope rest) ≡ fields_core l.names l.known l.fn.bindings.scope l.trees;
      first : first_of l.findings.first (fields_breaches l.known l.bindings.taken l.bindings.scope rest) ≡ first_of l.fn.findings.first (fields_breaches l.known l.fn.bindings.taken l.fn.bindings.scope l.trees);
      taken : fields_taken l.bindings.taken rest ≡ fields_taken l.fn.bindings.taken l.trees;
      scope : fields_scope l.known l.bindings.scope rest ≡ fields_scope l.known l.fn.bindings.scope l.trees;
      shut : length l.trees ≡ 0 → l.gathering.unit ≡ None;
    }
