use Rattle.td_host.proofs.desk.open_shared.Goals as goal

pub returns-clause-seat : goal.returns-clause-seat
returns-clause-seat g c = λ i. record { table = c.in_ok-shared.ensures.table i; view = c.in_ok-shared.ensures.view i }

pub returns-clause-posts : goal.returns-clause-posts
returns-clause-posts g c = c.in_ok-ring.ensures.posts

pub returns-clause-takes : goal.returns-clause-takes
returns-clause-takes g c = c.in_ok-ring.ensures.takes

pub returns-clause-drawer : goal.returns-clause-drawer
returns-clause-drawer g c = c.in_ok-tickets.ensures
