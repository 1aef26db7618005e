-- The lines that go to the error stream (own rule).
use Rattle.std.specs.Prelude.{ℕ, List, [], codes, Some, None}
use Rattle.td_front.specs.declared.error.FrontError.{FrontError}
use Rattle.td_front.specs.Lines.{place_of, code_of, words_of}
use Rattle.td_job.specs.declared.error.JobError.{JobError}
use Rattle.td_job.specs.Errors.{code_of as job_code, path_of}
use Rattle.td_report.specs.ErrorLine.{error_line}
use Rattle.td_cli_input.specs.declared.refusal.Refusal.{Refusal}
use Rattle.td_cli_input.specs.declared.refusal.Refusal.TheVariants.{TooLong, NoJob, BadModule, BadJob, NoRing}

abbrev pub usage_line : List ℕ
usage_line = codes "usage: td check|tidy|code|run|host|pack|bench N\n"

abbrev pub read_line : List ℕ
read_line = codes "error read\n"

abbrev pub memory_line : List ℕ
memory_line = codes "error memory\n"

-- the line that refuses a module text, which is a prefix of the input: a code, the place in the text, and words
abbrev pub module_line : List ℕ → FrontError → List ℕ
module_line input e = error_line input (Some (place_of e)) (code_of e) (words_of e)

-- the line that refuses a job: a code and the path of what is wrong in it
abbrev pub job_line : JobError → List ℕ
job_line e = error_line [] None (job_code e) (path_of e)

-- the line that refuses an input
abbrev pub refusal_line : List ℕ → Refusal → List ℕ
refusal_line input TooLong = error_line [] None (codes "Z1") (codes "input too long")
refusal_line input NoJob = error_line [] None (codes "Z2") (codes "no job")
refusal_line input (BadModule e) = module_line input e
refusal_line input (BadJob e) = job_line e
refusal_line input NoRing = error_line [] None (codes "Z3") (codes "no ring")
