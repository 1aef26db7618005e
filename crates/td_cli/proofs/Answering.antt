-- An input has one answer, and none where it is refused.
use Rattle.std.proofs.Common.{◌≡◌, ℕ, ◌<◌, ◌≤◌, List, length, None, Result, Ok, sym, ap, ap₂, subst, ◌∙◌, arith}
use Rattle.std.specs.Prelude.{◌↔◌}
use Rattle.td_core.specs.declared.module.Module.{Module}
use Rattle.td_core.specs.declared.outcome.Outcome.{Outcome}
use Rattle.td_stream.specs.declared.load.Load.{Load}
use Rattle.td_fetch.specs.Runs.{RunsAreOne}
use Rattle.td_ast.specs.declared.token.Token.{Token}
use Rattle.td_ast.specs.declared.parts.InputTree.{InputTree}
use Rattle.td_lexer.specs.declared.error.LexError.{LexError}
use Rattle.td_lexer.specs.Scanner.{tokens_of}
use Rattle.td_lexer.specs.Splits.{Splits}
use Rattle.td_grammar.specs.Parts.{input_text}
use Rattle.td_grammar.specs.Laws.{OneTree}
use Rattle.td_print_layout.specs.Definitions.{canonical_text}
use Rattle.td_front.specs.ModuleText.{SpellsTree, IsModuleText}
use Rattle.td_front.specs.Laws.{OneModuleEach, NeverBoth as NeverBothTexts}
use Rattle.td_job.specs.declared.run_job.RunJob.{RunJob}
use Rattle.td_job.specs.declared.error.JobError.{JobError}
use Rattle.td_job.specs.Jobs.{IsRunJob, RefusedJob}
use Rattle.td_job_host.specs.HostJobs.{IsHostJob, RefusedHostJob}
use Rattle.td_job_host.specs.Laws.{OneHostJobEach, NeverBothHost}
use Rattle.td_posts.specs.declared.ring.RingJob.{RingJob}
use Rattle.td_cli_input.specs.Inputs.{IsInputOf, RefusesInput}
use Rattle.td_cli_host.specs.Rings.{RingsAreRead}
use Rattle.td_cli_host.proofs.Refusals.{same_rings, read_by, never_both as both_rings}
use Rattle.td_job.specs.Laws.{OneJobEach, NeverBoth as NeverBothJobs, OneNamedJobEach, NeverBothNamed}
use Rattle.td_gen.specs.Laws.{OneMessageEach}
use Rattle.td_code.specs.Compile.{IsListing, IsPacked}
use Rattle.td_code.specs.Laws.{OneListing, OnePacked}
use Rattle.td_report.specs.Report.{report}
use Rattle.td_report.specs.Summary.{summary}
use Rattle.td_cli_command.specs.declared.command.Command.TheVariants.{Read, Host, Bench}
use Rattle.td_cli_command.specs.declared.command.Reading.TheVariants.{Check, Tidy, Run, Code, Pack}
use Rattle.td_cli_input.specs.declared.refusal.Refusal.{Refusal}
use Rattle.td_cli_input.specs.declared.refusal.Refusal.TheVariants.{TooLong, NoJob, BadModule, BadJob, NoRing}
use Rattle.td_cli.specs.declared.tool.TheConstants.{INPUT_LIMIT}
use Rattle.td_cli.specs.Run.{IsRunOf}
use Rattle.td_cli.specs.Answers.{IsReport, IsSummary, IsTidy}
use Rattle.td_cli_input.specs.Marker.{module_part, job_part}
use Rattle.td_cli.specs.Laws.{OneAnswer, AnsweredIsAdmitted, NeverBoth}
use Rattle.td_cli.proofs.OneRun.{SomeCarry, same_run}
use Rattle.td_cli.proofs.Benches.{one_bench, totals_admitted, never_refused}
use Rattle.td_cli_input.proofs.Inputs.{Kind, Faults, text_there, job_there, nothing_refuses}

-- ---- reports

one_run : RunsAreOne → SomeCarry → (m : Module) (job : RunJob) (o p : Outcome) (l k : List Load) → IsRunOf m job o l → IsRunOf m job p k → report o m job.entry l job.layout job.written ≡ report p m job.entry k job.layout job.written
one_run one some m job o p l k h g =
    let same = same_run one some m job o p l k h g in
    ap₂ (λ (x : Outcome) (y : List Load). report x m job.entry y job.layout job.written) same.0 same.1

one_report : OneModuleEach → OneJobEach → RunsAreOne → SomeCarry → (input a b : List ℕ) → IsReport input a → IsReport input b → a ≡ b
one_report modules jobs one some input a b h g =
    let i = h.input_is in
    let j = g.input_is in
    let text : IsModuleText (module_part input j.place) h.m = text_there (λ (t : List ℕ). IsModuleText t h.m) input i.place j.place i.marker j.marker i.text in
    let m : h.m ≡ g.m = modules (module_part input j.place) h.m g.m text j.text in
    let J : Module → Type 0 = λ x. IsRunJob (job_part input j.place) x h.job in
    let good : IsRunJob (job_part input j.place) g.m h.job = subst J m (job_there (λ (t : List ℕ). IsRunJob t h.m h.job) input i.place j.place i.marker j.marker i.good) in
    let job : h.job ≡ g.job = jobs (job_part input j.place) g.m h.job g.job good j.good in
    let M : Module → Type 0 = λ x. IsRunOf x h.job h.outcome h.loads in
    let R : RunJob → Type 0 = λ x. IsRunOf g.m x h.outcome h.loads in
    let moved : IsRunOf g.m g.job h.outcome h.loads = subst R job (subst M m h.run) in
    h.text_is ∙ ap₂ (λ (x : Module) (y : RunJob). report h.outcome x y.entry h.loads y.layout y.written) m job
    ∙ one_run one some g.m g.job h.outcome g.outcome h.loads g.loads moved g.run ∙ sym g.text_is

one_summary : OneModuleEach → (input a b : List ℕ) → IsSummary input a → IsSummary input b → a ≡ b
one_summary modules input a b h g = h.2 ∙ ap summary (modules input h.0 g.0 h.1 g.1) ∙ sym g.2

-- ---- trees

-- a text splits into its tokens, and these are one list
abbrev pub TokensAreOne : Type 0
TokensAreOne = (text : List ℕ) (tokens : List Token) → (tokens_of text ≡ Ok tokens) ↔ Splits text tokens

one_list : TokensAreOne → (text : List ℕ) (a b : List Token) → Splits text a → Splits text b → a ≡ b
one_list split text a b h g = same (tokens_of text) ((split text a).1 h) ((split text b).1 g)
  where
    same : (r : Result (List Token) LexError) → r ≡ Ok a → r ≡ Ok b → a ≡ b
    same r e f = cc

tree_of_text : TokensAreOne → OneTree → (text : List ℕ) (a b : InputTree) → SpellsTree text a → SpellsTree text b → a ≡ b
tree_of_text split one text a b h g =
    let S : List Token → Type 0 = λ t. input_text.Spells a t in
    one g.tokens a b (subst S (one_list split text h.tokens g.tokens h.split g.split) h.spelled) g.spelled

one_tidy : TokensAreOne → OneTree → (input a b : List ℕ) → IsTidy input a → IsTidy input b → a ≡ b
one_tidy split one input a b h g = h.2 ∙ ap canonical_text (tree_of_text split one input h.1.input g.1.input h.1.spells g.1.spells) ∙ sym g.2

-- ---- code

-- where a module has one, an input has one
of_module : (Is : Module → List ℕ → Type 0) → OneModuleEach → ((m : Module) (a b : List ℕ) → Is m a → Is m b → a ≡ b) → (input a b : List ℕ)
    → ((m : Module) × IsModuleText input m × Is m a) → ((m : Module) × IsModuleText input m × Is m b) → a ≡ b
of_module Is modules one input a b h g =
    let P : Module → Type 0 = λ x. Is x a in
    one g.0 a b (subst P (modules input h.0 g.0 h.1 g.1) h.2) g.2

-- ---- each command

pub one_answer : TokensAreOne → OneTree → OneModuleEach → OneJobEach → OneMessageEach → OneNamedJobEach → RunsAreOne → SomeCarry → OneListing → OnePacked → OneAnswer
one_answer split tree modules jobs messages named one some listings images (Read Check) input a b alone h g = one_summary modules input a b h.1 g.1
one_answer split tree modules jobs messages named one some listings images (Read Tidy) input a b alone h g = one_tidy split tree input a b h.1 g.1
one_answer split tree modules jobs messages named one some listings images (Read Run) input a b alone h g = one_report modules jobs one some input a b h.1 g.1
one_answer split tree modules jobs messages named one some listings images Host input a b alone h g = absurd alone
one_answer split tree modules jobs messages named one some listings images (Read Code) input a b alone h g = of_module IsListing modules listings input a b h.1 g.1
one_answer split tree modules jobs messages named one some listings images (Read Pack) input a b alone h g = of_module IsPacked modules images input a b h.1 g.1
one_answer split tree modules jobs messages named one some listings images (Bench n) input a b alone h g = one_bench modules messages named one some n a b h g

-- ---- never both

pub answered_admitted : AnsweredIsAdmitted
answered_admitted (Read Check) input output h = (h.0, h.1.0, h.1.1)
answered_admitted (Read Tidy) input output h = (h.0, h.1.0, h.1.1)
answered_admitted (Read Code) input output h = (h.0, h.1.0, h.1.1)
answered_admitted (Read Pack) input output h = (h.0, h.1.0, h.1.1)
answered_admitted (Read Run) input output h = (h.0, h.1.m, h.1.job, h.1.input_is)
answered_admitted Host input output h = let s = h.1.served in (h.0, s.m, s.job, s.input_is, read_by s.job.rings s.descriptors h.1.ring s.ring_is)
answered_admitted (Bench n) input output h = totals_admitted n h.0 h.1

-- an input of jobs of one kind isn't refused
refused : {J : Type 0} (Is : Kind J) (Bad : Faults) → OneModuleEach → NeverBothTexts → ((bytes : List ℕ) (m : Module) (j : J) (e : JobError) → Is bytes m j → Bad bytes m e → ⊥)
    → (input : List ℕ) (m : Module) (job : J) → IsInputOf Is input m job → (refusal : Refusal) → RefusesInput Bad input refusal → ⊥
refused Is Bad modules texts jobs input m job h refusal g =
    nothing_refuses Bad input h.place m h.marker (λ x k. modules (module_part input h.place) m x h.text k) (λ e k. texts (module_part input h.place) m e h.text k) (λ e k. jobs (job_part input h.place) m job e h.good k) refusal g

pub never_both : OneModuleEach → NeverBothTexts → NeverBothJobs → OneHostJobEach → NeverBothHost → OneMessageEach → NeverBothNamed → NeverBoth
never_both modules texts jobs one hosts messages named (Read Check) input TooLong h g = let short : length input ≤ INPUT_LIMIT = h.0 in let over : INPUT_LIMIT < length input = g in omega arith
never_both modules texts jobs one hosts messages named (Read Check) input NoJob h g = g.1
never_both modules texts jobs one hosts messages named (Read Check) input (BadModule e) h g = texts input h.1 e h.2 g.1
never_both modules texts jobs one hosts messages named (Read Check) input (BadJob e) h g = g.1
never_both modules texts jobs one hosts messages named (Read Check) input NoRing h g = g.1
never_both modules texts jobs one hosts messages named (Read Tidy) input TooLong h g = let short : length input ≤ INPUT_LIMIT = h.0 in let over : INPUT_LIMIT < length input = g in omega arith
never_both modules texts jobs one hosts messages named (Read Code) input TooLong h g = let short : length input ≤ INPUT_LIMIT = h.0 in let over : INPUT_LIMIT < length input = g in omega arith
never_both modules texts jobs one hosts messages named (Read Pack) input TooLong h g = let short : length input ≤ INPUT_LIMIT = h.0 in let over : INPUT_LIMIT < length input = g in omega arith
never_both modules texts jobs one hosts messages named (Read Tidy) input NoJob h g = g.1
never_both modules texts jobs one hosts messages named (Read Code) input NoJob h g = g.1
never_both modules texts jobs one hosts messages named (Read Pack) input NoJob h g = g.1
never_both modules texts jobs one hosts messages named (Read Tidy) input (BadModule e) h g = texts input h.1 e h.2 g.1
never_both modules texts jobs one hosts messages named (Read Code) input (BadModule e) h g = texts input h.1 e h.2 g.1
never_both modules texts jobs one hosts messages named (Read Pack) input (BadModule e) h g = texts input h.1 e h.2 g.1
never_both modules texts jobs one hosts messages named (Read Tidy) input (BadJob e) h g = g.1
never_both modules texts jobs one hosts messages named (Read Tidy) input NoRing h g = g.1
never_both modules texts jobs one hosts messages named (Read Code) input (BadJob e) h g = g.1
never_both modules texts jobs one hosts messages named (Read Code) input NoRing h g = g.1
never_both modules texts jobs one hosts messages named (Read Pack) input (BadJob e) h g = g.1
never_both modules texts jobs one hosts messages named (Read Pack) input NoRing h g = g.1
never_both modules texts jobs one hosts messages named (Read Run) input TooLong h g = let short : length input ≤ INPUT_LIMIT = h.0 in let over : INPUT_LIMIT < length input = g in omega arith
never_both modules texts jobs one hosts messages named (Read Run) input NoJob h g = g.1 h.3.place h.3.marker.marker
never_both modules texts jobs one hosts messages named (Read Run) input (BadModule e) h g = refused IsRunJob RefusedJob modules texts jobs input h.1 h.2 h.3 (BadModule e) g.1
never_both modules texts jobs one hosts messages named (Read Run) input (BadJob e) h g = refused IsRunJob RefusedJob modules texts jobs input h.1 h.2 h.3 (BadJob e) g.1
never_both modules texts jobs one hosts messages named (Read Run) input NoRing h g = g.1
never_both modules texts jobs one hosts messages named Host input TooLong h g = let short : length input ≤ INPUT_LIMIT = h.0 in let over : INPUT_LIMIT < length input = g in omega arith
never_both modules texts jobs one hosts messages named Host input NoJob h g = g.1 h.3.place h.3.marker.marker
never_both modules texts jobs one hosts messages named Host input (BadModule e) h g = refused IsHostJob RefusedHostJob modules texts hosts input h.1 h.2 h.3 (BadModule e) g.1
never_both modules texts jobs one hosts messages named Host input (BadJob e) h g = refused IsHostJob RefusedHostJob modules texts hosts input h.1 h.2 h.3 (BadJob e) g.1
never_both modules texts jobs one hosts messages named Host input NoRing h g =
    let bad = g.1 in
    let same = same_rings modules one input h.1 bad.0 h.2 bad.1 h.3 bad.2 in
    both_rings bad.1.rings (subst (λ (rings : List RingJob). RingsAreRead rings) same h.4) bad.3
never_both modules texts jobs one hosts messages named (Bench n) input refusal h g = never_refused modules texts messages named n refusal h g
