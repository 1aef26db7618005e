use Rattle.td_host_actors.specs.Acting.{PostFits, most_frames}
use Rattle.td_host.proofs.job.serve_job.Given as goal

abbrev pub ghosts-serve_under : goal.ghosts-serve_under
ghosts-serve_under g a = record { names = λ p. PostFits (most_frames a.codes.items) a.job p }
