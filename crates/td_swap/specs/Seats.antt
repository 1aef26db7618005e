-- What contracts see of the seats.
use Rattle.std.specs.Prelude.{◌≡◌, ℕ, ◌+◌, length}
use Rattle.atomic_table.specs.Seated.{TableId}
use Rattle.td_swap.specs.declared.view.PublisherView.{PublisherView}
use Rattle.td_swap.specs.declared.view.SwapView.{SwapView}
use Rattle.td_swap.specs.Views.{publisher_view, did_load, one_more, with_ended}
use Rattle.td_swap.specs.Versions.{CodesState}

-- the publisher's seat: whose table it is at, and its view
pub record PublishState : Type 0 where
  pub table : TableId
  pub view : PublisherView

-- a seat that loads which version is published
pub record SwapState : Type 0 where
  pub table : TableId
  pub view : SwapView

abbrev pub publish_state : TableId → PublisherView → PublishState
publish_state t v = record { table = t; view = v }

abbrev pub swap_state : TableId → SwapView → SwapState
swap_state t v = record { table = t; view = v }

-- the publisher's seat is these codes' own
abbrev pub IsPublishers : CodesState → PublishState → Type 0
IsPublishers c s = (s.table ≡ c.table) × (s.view.count ≡ length c.codes)

-- the seat is these codes' own
abbrev pub IsOwn : CodesState → SwapState → Type 0
IsOwn c s = (s.table ≡ c.table) × (s.view.count ≡ length c.codes)

-- the publisher's seat after one publication more
abbrev pub then_published : PublishState → PublishState
then_published s = publish_state s.table (publisher_view s.view.count (s.view.number + 1))

-- the seat after it loaded this number, too
abbrev pub then_loaded : SwapState → ℕ → SwapState
then_loaded s n = swap_state s.table (did_load s.view n)

-- the seat after it made another
abbrev pub then_split : SwapState → SwapState
then_split s = swap_state s.table (one_more s.view)

-- the seat after it gathered another
abbrev pub then_gathered : SwapState → SwapState → SwapState
then_gathered s t = swap_state s.table (with_ended s.view t.view)
