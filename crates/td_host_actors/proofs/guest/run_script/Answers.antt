use Rattle.std.proofs.Common.{rules, ◌≡◌, ◌+◌, List, ◌∷◌, ◌++◌, length, drop, sym, ap, ◌∙◌, subst, arith}
use Rattle.std.specs.Option.{option_to_list}
use Rattle.std.proofs.lemmas.List.{drop_all}
use Rattle.td_posts.specs.declared.job.Step.{Step}
use Rattle.td_posts.specs.declared.job.Step.TheVariants as step
use Rattle.td_posts.specs.Posts.{post_name, mails_of}
use Rattle.td_host_actors.specs.Acting.{RoomsFor, StoresInside, RanScript}
use Rattle.td_host_actors.proofs.Posting.{from_here, posting_by, post_is}
use Rattle.td_host_actors.proofs.Plays.{begins, inside, room, stores_one, posts_one, ends, none_for, first_for}
use Rattle.td_host_actors.proofs.guest.run_script.Goals.{in-Store, in-Post+in-Some}
use Rattle.td_host_actors.proofs.guest.run_script.Goals as goal

pub loop-step-init : goal.loop-step-init
loop-step-init g c =
    let guest = c.args.guest.now in
    let count = c.args.desk.now.shared.count in
    let script : List Step = c.as_slice-script.result.now in
    let same : guest.script ≡ script = sym c.as_slice-script.ensures in
    begins g.J.Naming.names guest.number count script guest.seat guest.pass guest.rooms.items c.requires.fresh
    (subst (λ (s : List Step). RoomsFor g.J.Naming.names (mails_of guest.number s) guest.rooms.items) same c.requires.rooms) (subst (StoresInside count) same c.requires.inside)

pub store-requires : goal.store-requires
store-requires g c =
    let a = c.args.guest.now in
    let count = c.args.desk.now.shared.count in
    let l = c.loop-step in
    let n = l.step-index in
    let script : List Step = c.as_slice-script.result.now in
    let e : drop n script ≡ step.Store c.in-Store.word c.in-Store.value ∷ drop (n + 1) script = from_here script n c.step-item.result c.loop-step-test.true c.step-item.is ∙ ap (λ (s : Step). s ∷ drop (n + 1) script) c.in-Store.is in
    record { own = l.invariant.table ∙ c.requires.own.0; inside = inside g.J.Naming.names a.number count script a.seat l.seat a.pass l.pass l.rooms.items l.number l.made (drop n script) (drop (n + 1) script) c.in-Store.word c.in-Store.value l.invariant e }

pub unreachable-requires : goal.unreachable-requires
unreachable-requires g c =
    let a = c.args.guest.now in
    let count = c.args.desk.now.shared.count in
    let l = c.loop-step in
    let n = l.step-index in
    let script : List Step = c.as_slice-script.result.now in
    let s : Step = c.step-item.result in
    let e : drop n script ≡ s ∷ drop (n + 1) script = from_here script n s c.loop-step-test.true c.step-item.is in
    let empty : length l.rooms.items ≡ 0 = search rules in
    none_for g.J.Naming.names _ _ l.rooms.items (room g.J.Naming.names a.number count script a.seat l.seat a.pass l.pass l.rooms.items l.number l.made (drop n script) (drop (n + 1) script) s (posting_by s c.in-Post.is) l.invariant e) empty

pub post-requires-clause-named : goal.post-requires-clause-named
post-requires-clause-named g c =
    let a = c.args.guest.now in
    let count = c.args.desk.now.shared.count in
    let l = c.loop-step in
    let n = l.step-index in
    let script : List Step = c.as_slice-script.result.now in
    let s : Step = c.step-item.result in
    let e : drop n script ≡ s ∷ drop (n + 1) script = from_here script n s c.loop-step-test.true c.step-item.is in
    let out : l.rooms.items ≡ c.in-Some.room ∷ c.pop_front.new.self.items = c.pop_front.ensures.items ∙ ap (λ o. option_to_list o ++ c.pop_front.new.self.items) c.in-Some.is in
    subst g.J.Naming.names (post_is (post_name a.number (l.number + 1)) l.made s c.in-Some.room) (first_for g.J.Naming.names _ _ l.rooms.items c.in-Some.room c.pop_front.new.self.items (room g.J.Naming.names a.number count script a.seat l.seat a.pass l.pass l.rooms.items l.number l.made (drop n script) (drop (n + 1) script) s (posting_by s c.in-Post.is) l.invariant e) out)

pub loop-step-preserved : goal.loop-step-preserved
loop-step-preserved g c =
    let a = c.args.guest.now in
    let count = c.args.desk.now.shared.count in
    let l = c.loop-step in
    let n = l.step-index in
    let script : List Step = c.as_slice-script.result.now in
    let s : Step = c.step-item.result in
    let e : drop n script ≡ s ∷ drop (n + 1) script = from_here script n s c.loop-step-test.true c.step-item.is in
    elim c.match-step.branch [
      | in-Store w ↦ (
          let f : drop n script ≡ step.Store w.in-Store.word w.in-Store.value ∷ drop (n + 1) script = e ∙ ap (λ (x : Step). x ∷ drop (n + 1) script) w.in-Store.is in
          search (rules, w, stores_one g.J.Naming.names a.number count script a.seat l.seat a.pass l.pass l.rooms.items l.number l.made (drop n script) (drop (n + 1) script) w.in-Store.word w.in-Store.value w.store.new.seat l.invariant f w.store.ensures))
      | in-Post+in-Some w ↦ (
          let out : l.rooms.items ≡ w.in-Some.room ∷ w.pop_front.new.self.items = w.pop_front.ensures.items ∙ ap (λ o. option_to_list o ++ w.pop_front.new.self.items) w.in-Some.is in
          search (rules, w, posts_one g.J.Naming.names a.number count script a.seat l.seat a.pass l.pass l.rooms.items l.number l.made (drop n script) (drop (n + 1) script) s w.post.new.pass w.in-Some.room w.pop_front.new.self.items (posting_by s w.in-Post.is) l.invariant e out w.post.ensures))
    ]

pub returns : goal.returns
returns g c =
    let a = c.args.guest.now in
    let l = c.loop-step in
    let n = l.step-index in
    let script : List Step = c.as_slice-script.result.now in
    subst (λ (s : List Step). RanScript a.number s a.seat l.seat a.pass l.pass) c.as_slice-script.ensures
    (ends g.J.Naming.names a.number c.args.desk.now.shared.count script a.seat l.seat a.pass l.pass l.rooms.items l.number l.made (drop n script) l.invariant (drop_all n script (omega (arith, c.loop-step-test.false))))
