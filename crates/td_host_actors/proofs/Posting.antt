-- Steps that post. Cited by other crates.
use Rattle.std.proofs.Common.{◌≡◌, ◌⊎◌, ℕ, ◌+◌, ◌*◌, ◌<◌, ◌≤◌, false, true≢false, List, [], ◌∷◌, length, drop, refl, sym, ap, ◌∙◌, subst, ⊎_elim, Option, None, Some}
use Rattle.std.specs.Prelude.{slice_index_or}
use Rattle.std.proofs.lemmas.List.{drop_more}
use Rattle.std.specs.Option.{option_map, is_some, unwrap_or}
use Rattle.std.specs.declared.snapshot.Snapshot.{Snapshot}
use Rattle.std.proofs.lemmas.List.Elements.{All-head}
use Rattle.td_stream.specs.declared.stretch.Stretch.{Stretch}
use Rattle.td_stream.specs.Layouts.{AreWithin}
use Rattle.td_ring.specs.declared.post.Post.{Post}
use Rattle.td_posts.specs.declared.name.PostName.{PostName}
use Rattle.td_posts.specs.declared.job.Step.{Step}
use Rattle.td_posts.specs.declared.job.Step.TheVariants as step
use Rattle.td_posts.specs.declared.mail.Mail.{Mail}
use Rattle.td_posts.specs.declared.reply.Reply.{Reply}
use Rattle.td_posts.specs.Posts.{mail, scattered, post_name, mails_from, laid_at}
use Rattle.td_host_actors.specs.Replies.{mail_label}
use Rattle.td_host_actors.specs.Acting.{acts_of, StoresInside, post_of}

-- the steps from one on that is there
pub from_here : (script : List Step) (n : ℕ) (s : Step) → n < length script → s ≡ slice_index_or script n s → drop n script ≡ s ∷ drop (n + 1) script
from_here script n s less is = drop_more script n s less ∙ ap (λ (x : Step). x ∷ drop (n + 1) script) (sym is)

-- the step posts
abbrev pub Posting : Step → Type 0
Posting (step.Store word value) = ⊥
Posting (step.Post base length) = Unit {0}
Posting (step.Scatter layout) = Unit {0}

pub posting_by : (s : Step) → ((base : ℕ) × (length : ℕ) × (s ≡ step.Post base length)) ⊎ ((layout : List Stretch) × (s ≡ step.Scatter layout)) → Posting s
posting_by s p = ⊎_elim
    (λ (x : (base : ℕ) × (length : ℕ) × (s ≡ step.Post base length)). subst Posting (sym x.2) tt)
    (λ (x : (layout : List Stretch) × (s ≡ step.Scatter layout)). subst Posting (sym x.1) tt) p

-- its post, by the name and the number of stores before it; of no meaning for a store
abbrev pub mail_by : PostName → ℕ → Step → Mail
mail_by name made (step.Store word value) = mail name made 0 0
mail_by name made (step.Post base length) = mail name made base length
mail_by name made (step.Scatter layout) = scattered name made layout

pub mails_post : (g n made : ℕ) (s : Step) (steps : List Step) → Posting s → mails_from g n made (s ∷ steps) ≡ mail_by (post_name g n) made s ∷ mails_from g (n + 1) made steps
unfolding mails_from
mails_post g n made (step.Store word value) steps p = absurd p
mails_post g n made (step.Post base length) steps p = refl
mails_post g n made (step.Scatter layout) steps p = refl

pub acts_post : (s : Step) (steps : List Step) → Posting s → acts_of (s ∷ steps) ≡ acts_of steps
unfolding acts_of
acts_post (step.Store word value) steps p = absurd p
acts_post (step.Post base length) steps p = refl
acts_post (step.Scatter layout) steps p = refl

pub stays_post : (count : ℕ) (s : Step) (steps : List Step) → Posting s → StoresInside count (s ∷ steps) → StoresInside count steps
unfolding StoresInside
stays_post count (step.Store word value) steps p h = absurd p
stays_post count (step.Post base length) steps p h = h
stays_post count (step.Scatter layout) steps p h = h

abbrev pub post_by : PostName → ℕ → Reply → Post
post_by name made r = record { name = name; made = made; room = r }

pub post_is : (name : PostName) (made : ℕ) (s : Step) (r : Reply) → post_of (mail_by name made s) r ≡ post_by name made r
post_is name made (step.Store word value) r = refl
post_is name made (step.Post base length) r = refl
post_is name made (step.Scatter layout) r = refl

pub label_is : (name : PostName) (made : ℕ) (s : Step) → mail_label (mail_by name made s) ≡ (name, made)
label_is name made (step.Store word value) = refl
label_is name made (step.Post base length) = refl
label_is name made (step.Scatter layout) = refl

-- where the message ends that lies at a word
pub ends_by : (n base length : ℕ) (has : Option (Snapshot (List Stretch))) → is_some has ≡ false → AreWithin n (laid_at base length (option_map (λ (s : Snapshot (List Stretch)). s.value) has)) → 8 * base + length ≤ 8 * n
ends_by n base length None none within = All-head (λ (s : Stretch). s.place + s.size ≤ 8 * n) (record { place = 8 * base; size = length }) [] within
ends_by n base length (Some s) none within = absurd (true≢false none)

-- the layout that a worker validates by is the post's: the list in its room, or else what is made of the post
pub laid_is : (base length : ℕ) (has : Option (Snapshot (List Stretch))) (list : Option (List Stretch)) (single : List Stretch)
    → list ≡ option_map (λ (s : Snapshot (List Stretch)). s.value) has
    → (has ≡ None → single ≡ laid_at base length (option_map (λ (s : Snapshot (List Stretch)). s.value) has))
    → unwrap_or list single ≡ laid_at base length (option_map (λ (s : Snapshot (List Stretch)). s.value) has)
laid_is base length None list single is at = ap (λ (l : Option (List Stretch)). unwrap_or l single) is ∙ at refl
laid_is base length (Some s) list single is at = ap (λ (l : Option (List Stretch)). unwrap_or l single) is
