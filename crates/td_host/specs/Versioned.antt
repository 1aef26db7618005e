-- Under which versions the posts of a job were answered (own rule).
use Rattle.std.specs.Prelude.{◌≡◌, ◌-◌, List, [], map, length}
use Rattle.std.specs.List.{All}
use Rattle.std.specs.List.Sorted.{IsPermutation}
use Rattle.td_words.specs.declared.view.HostView.{HostView}
use Rattle.td_ring.specs.declared.view.RingView.{RingView}
use Rattle.td_swap.specs.declared.view.SwapView.{SwapView}
use Rattle.td_swap.specs.declared.view.PublisherView.{PublisherView}
use Rattle.td_swap.specs.Views.{publisher_view, IsVersionRun}
use Rattle.td_core.specs.declared.module.Module.{Module}
use Rattle.td_takes.specs.declared.take.Take.{Take}
use Rattle.td_posts.specs.declared.reply.Reply.{Reply}
use Rattle.td_posts.specs.declared.job.HostJob.{HostJob}
use Rattle.td_posts.specs.Posts.{version_in}
use Rattle.td_host.specs.Served.{joined, Served}

-- what the seats at the version word know in the end. One list of numbers was gathered for each worker: those that it loaded, which
-- are the versions of its replies, one load for each, in order; none of these lists falls, and all have numbers of versions alone. So
-- the numbers of all lists together are the versions of the replies, each as often. As many seats were made as lists were gathered, and
-- the seat that made them loaded nothing, so no other seat looked. And the publisher published all versions
pub record Versioned (job : HostJob) (replies : List Reply) (shares : List (List Reply)) (swaps : SwapView) (publisher : PublisherView) : Type 0 where
  pub count : swaps.count ≡ length job.formats
  pub no_load : swaps.loads ≡ []
  pub made : swaps.made ≡ job.workers
  pub as_many : length swaps.ended ≡ job.workers
  pub each_own : swaps.ended ≡ map (map version_in) shares
  pub each_once : IsPermutation (joined swaps.ended) (map version_in replies)
  pub runs : All (IsVersionRun (length job.formats)) swaps.ended
  pub published : publisher ≡ publisher_view (length job.formats) (length job.formats - 1)

-- all posts of the job are served, under its versions, which replaced one another meanwhile, and all takes of its rings are made
pub record ServedVersions (m : Module) (job : HostJob) (replies : List Reply) (takes : List Take) (host : HostView) (passes : RingView) (swaps : SwapView) (publisher : PublisherView) : Type 0 where
  pub served : Served m job replies takes host passes
  pub versioned : Versioned job replies served.seats.divided.shares swaps publisher
