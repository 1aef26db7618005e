-- Worked rows: texts that a meaning at 64 bits needs.
use Rattle.std.proofs.Common.{◌≡◌, [], ◌++◌, refl}
use Rattle.std.specs.Prelude.{codes, decimal}
use Rattle.td_prog.specs.Syntax.{Pos, End, Number, Num, Get, Choice, Ends, Load, Member}
use Rattle.td_prog_text.specs.Expressions.{text, wide, expression}
use Rattle.td_prog_text.specs.Statements.{statements}

-- a choice of two numerals has type uint64_t; beside a variable a numeral needs no more
two_numerals : text (expression (Choice (Get Pos) (Num 1) (Num 2))) ≡ codes "(pos) ? " ++ (wide 1 ++ (codes " : " ++ (decimal 2 ++ [])))
two_numerals = refl

one_numeral : text (expression (Choice (Get Pos) (Num 0) (Get End))) ≡ codes "(pos) ? " ++ (decimal 0 ++ (codes " : end"))
one_numeral = refl

-- the word that was loaded is the one behind which the next begins, whatever the load gave
a_load : text (statements [] [] [] Ends 1 (Load Ends)) ≡ codes "    run->held = TD_LOAD(&run->words[word]);\n    run->next = word + 1;\n"
a_load = refl

-- a switch is on a variable, so its cases have 64 bits
a_switch : text (statements [] [] [] Ends 1 (Member Number Pos [] Ends)) ≡ codes "    switch (pos) {\n    default:\n        number = 0;\n        break;\n    }\n"
a_switch = refl
