-- Each input is admitted or refused.
use Rattle.std.proofs.Common.{◌≡◌, ◌⊎◌, inl, inr, ℕ, zero, suc, ◌<◌, ◌≤◌, List, length, subst, arith}
use Rattle.std.proofs.lemmas.Bool.{cases_lt}
use Rattle.td_front.specs.Laws.{AlwaysOne as AlwaysOneText}
use Rattle.td_core.specs.declared.module.Module.{Module}
use Rattle.td_job.specs.declared.error.JobError.{JobError}
use Rattle.td_job.specs.Jobs.{IsRunJob, RefusedJob}
use Rattle.td_job.specs.Laws.{AlwaysOne as AlwaysOneJob, AlwaysOneNamed}
use Rattle.td_job.specs.declared.named.NamedJob.{NamedJob}
use Rattle.td_job.specs.Named.{FirstNamedFault}
use Rattle.td_formats.specs.declared.format.Format.TheVariants.{Ethernet, Ipv4, Tcp, Rndis}
use Rattle.td_formats.specs.Format.{text_of}
use Rattle.td_gen.specs.Message.{format_of}
use Rattle.td_gen.specs.Laws.{SomeMessageEach}
use Rattle.td_job_host.specs.HostJobs.{IsHostJob, RefusedHostJob}
use Rattle.td_job_host.specs.Laws.{AlwaysOneHost}
use Rattle.td_cli_input.specs.Inputs.{IsInputOf, RefusesInput}
use Rattle.td_cli_input.proofs.Inputs.{Kind, Faults}
use Rattle.td_cli_host.specs.Laws.{RingsReadOrNot}
use Rattle.td_cli_command.specs.declared.command.Command.TheVariants.{Read, Host, Bench}
use Rattle.td_cli_command.specs.declared.command.Reading.TheVariants.{Check, Tidy, Run, Code, Pack}
use Rattle.td_cli_input.specs.declared.refusal.Refusal.{Refusal}
use Rattle.td_cli_input.specs.declared.refusal.Refusal.TheVariants.{TooLong, NoJob, BadModule, BadJob, NoRing}
use Rattle.td_cli.specs.declared.tool.TheConstants.{INPUT_LIMIT}
use Rattle.td_cli.specs.Answers.{Admits, Refuses}
use Rattle.td_cli.specs.Bench.{HaveModules, HasJob, IsMessageOf, AdmitsBench, RefusesBench}
use Rattle.td_cli.proofs.Benches.{text_module}
use Rattle.td_cli_input.specs.Marker.{module_part, job_part}
use Rattle.td_cli.specs.Laws.{AlwaysOne}
use Rattle.td_cli_input.proofs.Markers.{marker_below}

-- ---- inputs

check_short : AlwaysOneText → (input : List ℕ) → length input ≤ INPUT_LIMIT → Admits (Read Check) input ⊎ ((refusal : Refusal) × Refuses (Read Check) input refusal)
check_short texts input short = elim (texts input) [ inl (m, h) ↦ inl (short, m, h) | inr (e, h) ↦ inr (BadModule e, (short, h)) ]

tidy_short : AlwaysOneText → (input : List ℕ) → length input ≤ INPUT_LIMIT → Admits (Read Tidy) input ⊎ ((refusal : Refusal) × Refuses (Read Tidy) input refusal)
tidy_short texts input short = elim (texts input) [ inl (m, h) ↦ inl (short, m, h) | inr (e, h) ↦ inr (BadModule e, (short, h)) ]

code_short : AlwaysOneText → (input : List ℕ) → length input ≤ INPUT_LIMIT → Admits (Read Code) input ⊎ ((refusal : Refusal) × Refuses (Read Code) input refusal)
code_short texts input short = elim (texts input) [ inl (m, h) ↦ inl (short, m, h) | inr (e, h) ↦ inr (BadModule e, (short, h)) ]

pack_short : AlwaysOneText → (input : List ℕ) → length input ≤ INPUT_LIMIT → Admits (Read Pack) input ⊎ ((refusal : Refusal) × Refuses (Read Pack) input refusal)
pack_short texts input short = elim (texts input) [ inl (m, h) ↦ inl (short, m, h) | inr (e, h) ↦ inr (BadModule e, (short, h)) ]

-- what is known of an input of jobs of one kind
job_short : {J : Type 0} (Is : Kind J) (Bad : Faults) → AlwaysOneText → ((bytes : List ℕ) (m : Module) → ((j : J) × Is bytes m j) ⊎ ((e : JobError) × Bad bytes m e))
    → (input : List ℕ) → ((m : Module) × (job : J) × IsInputOf Is input m job) ⊎ ((refusal : Refusal) × RefusesInput Bad input refusal)
job_short Is Bad texts jobs input = elim (marker_below input (length input)) [
  | inr none ↦ inr (NoJob, λ n h. none n h.within h)
  | inl (n, first) ↦ elim (texts (module_part input n)) [
    | inr (e, h) ↦ inr (BadModule e, (n, first, h))
    | inl (m, h) ↦ elim (jobs (job_part input n) m) [
      | inl (job, good) ↦ inl (m, job, record { place = n; marker = first; text = h; good = good })
      | inr (e, wrong) ↦ inr (BadJob e, (n, m, first, h, wrong))
    ]
  ]
]

run_short : AlwaysOneText → AlwaysOneJob → (input : List ℕ) → length input ≤ INPUT_LIMIT → Admits (Read Run) input ⊎ ((refusal : Refusal) × Refuses (Read Run) input refusal)
run_short texts jobs input short = elim (job_short IsRunJob RefusedJob texts jobs input) [
  | inl h ↦ inl (short, h.0, h.1, h.2)
  | inr (TooLong, h) ↦ absurd h
  | inr (NoJob, h) ↦ inr (NoJob, (short, h))
  | inr (BadModule e, h) ↦ inr (BadModule e, (short, h))
  | inr (BadJob e, h) ↦ inr (BadJob e, (short, h))
  | inr (NoRing, h) ↦ absurd h
]

host_short : AlwaysOneText → RingsReadOrNot → AlwaysOneHost → (input : List ℕ) → length input ≤ INPUT_LIMIT → Admits Host input ⊎ ((refusal : Refusal) × Refuses Host input refusal)
host_short texts rings jobs input short = elim (job_short IsHostJob RefusedHostJob texts jobs input) [
  | inl (m, job, is) ↦ elim (rings job.rings) [ inl read ↦ inl (short, m, job, is, read) | inr none ↦ inr (NoRing, (short, (m, job, is, none))) ]
  | inr (TooLong, h) ↦ absurd h
  | inr (NoJob, h) ↦ inr (NoJob, (short, h))
  | inr (BadModule e, h) ↦ inr (BadModule e, (short, h))
  | inr (BadJob e, h) ↦ inr (BadJob e, (short, h))
  | inr (NoRing, h) ↦ absurd h
]

-- ---- `bench`

bench_texts : AlwaysOneText → (n : ℕ) → HaveModules ⊎ ((refusal : Refusal) × RefusesBench n refusal)
bench_texts texts n = elim (texts (text_of Ethernet)) [
  | inr (e, h) ↦ inr (BadModule e, (Ethernet, record { before = tt; refused = h }))
  | inl a ↦ elim (texts (text_of Ipv4)) [
    | inr (e, h) ↦ inr (BadModule e, (Ipv4, record { before = a; refused = h }))
    | inl b ↦ elim (texts (text_of Tcp)) [
      | inr (e, h) ↦ inr (BadModule e, (Tcp, record { before = (a, b); refused = h }))
      | inl c ↦ elim (texts (text_of Rndis)) [
        | inr (e, h) ↦ inr (BadModule e, (Rndis, record { before = (a, b, c); refused = h }))
        | inl d ↦ inl (a, b, c, d)
      ]
    ]
  ]
]

-- why message k is no job of its module
abbrev BadMessage : ℕ → Type 0
BadMessage k = (m : Module) × (message : NamedJob) × (e : JobError) × IsMessageOf k m message × FirstNamedFault m message e

bench_job : SomeMessageEach → AlwaysOneNamed → HaveModules → (k : ℕ) → HasJob k ⊎ BadMessage k
bench_job messages jobs texts k =
    let has = text_module texts (format_of k) in
    let made = messages k in
    elim (jobs has.0 made.0) [
      | inl (job, good) ↦ inl (record { m = has.0; message = made.0; job = job; of = record { text = has.1; made = made.1 }; is_job = good })
      | inr (e, wrong) ↦ inr (has.0, made.0, e, record { text = has.1; made = made.1 }, wrong)
    ]

bench_jobs : SomeMessageEach → AlwaysOneNamed → HaveModules → (n k : ℕ) → k ≤ n → ((j : ℕ) → j < k → HasJob j) ⊎ ((refusal : Refusal) × RefusesBench n refusal)
bench_jobs messages jobs texts n zero most = inl (λ j l. absurd (omega (arith, l)))
bench_jobs messages jobs texts n (suc k) most = elim (bench_jobs messages jobs texts n k (omega (arith, most))) [
  | inr refused ↦ inr refused
  | inl before ↦ elim (bench_job messages jobs texts k) [
    | inl has ↦ inl (λ j l. one_more before has j l)
    | inr (m, message, e, of, fault) ↦ inr (BadJob e, (k, record { texts = texts; below = omega (arith, most); before = before; m = m; message = message; of = of; fault = fault }))
  ]
]
  where
    one_more : ((j : ℕ) → j < k → HasJob j) → HasJob k → (j : ℕ) → j < suc k → HasJob j
    one_more before has j l = elim (cases_lt j k) [ inl less ↦ before j less | inr past ↦ (let same : k ≡ j = omega (arith, past, l) in subst HasJob same has) ]

bench_one : AlwaysOneText → SomeMessageEach → AlwaysOneNamed → (n : ℕ) → AdmitsBench n ⊎ ((refusal : Refusal) × RefusesBench n refusal)
bench_one texts messages jobs n = elim (bench_texts texts n) [
  | inr refused ↦ inr refused
  | inl have ↦ elim (bench_jobs messages jobs have n n (omega arith)) [ inr refused ↦ inr refused | inl each ↦ inl (have, each) ]
]

pub always_one : AlwaysOneText → RingsReadOrNot → AlwaysOneJob → AlwaysOneHost → SomeMessageEach → AlwaysOneNamed → AlwaysOne
always_one texts rings jobs hosts messages named (Read Check) input = elim (cases_lt INPUT_LIMIT (length input)) [ inl long ↦ inr (TooLong, long) | inr short ↦ check_short texts input short ]
always_one texts rings jobs hosts messages named (Read Tidy) input = elim (cases_lt INPUT_LIMIT (length input)) [ inl long ↦ inr (TooLong, long) | inr short ↦ tidy_short texts input short ]
always_one texts rings jobs hosts messages named (Read Code) input = elim (cases_lt INPUT_LIMIT (length input)) [ inl long ↦ inr (TooLong, long) | inr short ↦ code_short texts input short ]
always_one texts rings jobs hosts messages named (Read Pack) input = elim (cases_lt INPUT_LIMIT (length input)) [ inl long ↦ inr (TooLong, long) | inr short ↦ pack_short texts input short ]
always_one texts rings jobs hosts messages named (Read Run) input = elim (cases_lt INPUT_LIMIT (length input)) [ inl long ↦ inr (TooLong, long) | inr short ↦ run_short texts jobs input short ]
always_one texts rings jobs hosts messages named Host input = elim (cases_lt INPUT_LIMIT (length input)) [ inl long ↦ inr (TooLong, long) | inr short ↦ host_short texts rings hosts input short ]
always_one texts rings jobs hosts messages named (Bench n) input = bench_one texts messages named n
