-- Each reply of a served input can be read back from its report.
use Rattle.std.proofs.Common.{◌≡◌, inl, inr, ⊎_elim, ℕ, ◌+◌, ◌<◌, ◌≤◌, ◌^◌, List, [], ◌∷◌, ◌++◌, length, Option, Some, None, slice_index, refl, sym, ap, subst, arith, length-append}
use Rattle.std.specs.List.{All}
use Rattle.std.proofs.lemmas.List.Elements.{All-nil, All-cons, All-head, All-tail, All-append, All-weaker}
use Rattle.std.proofs.lemmas.Option.{slice_get_within}
use Rattle.std.proofs.lemmas.List.Sorted.{All-permutation}
use Rattle.td_num.specs.Lists.{AreBytes}
use Rattle.td_core.specs.declared.module.Module.{Module}
use Rattle.td_stream.specs.declared.load.Load.{Load}
use Rattle.td_stream.specs.declared.stretch.Stretch.{Stretch}
use Rattle.td_stream.specs.Layouts.{length_in, count_in, buffer_word, IsNumberOf}
use Rattle.td_stream.specs.Loads.{IsRising, Inside, Carries}
use Rattle.td_meaning.specs.Copies.{outcome}
use Rattle.td_front.specs.Checked.{IsChecked}
use Rattle.td_front.specs.Laws.{ModulesAreChecked}
use Rattle.td_job.specs.declared.checks.TheConstants.{MOST_BYTES}
use Rattle.td_report.specs.Laws.{IsShownLoad}
use Rattle.td_posts.specs.declared.name.PostName.{PostName}
use Rattle.td_posts.specs.declared.job.Step.{Step}
use Rattle.td_posts.specs.declared.job.Step.TheVariants.{Store, Post, Scatter}
use Rattle.td_posts.specs.declared.mail.Mail.{Mail}
use Rattle.td_posts.specs.declared.reply.Reply.{Reply}
use Rattle.td_posts.specs.declared.job.HostJob.{HostJob}
use Rattle.td_posts.specs.Posts.{list_of, laid_at, layout_of, mail, scattered, post_name, mails_from, mails_of, all_mails, stores_of, zeros, outcome_in}
use Rattle.td_words.specs.declared.view.SeatView.{SeatView}
use Rattle.td_words.specs.declared.view.HostView.{HostView}
use Rattle.td_words.specs.History.{loads}
use Rattle.td_host_actors.specs.Replies.{IsReplyTo, placed, layout_in, pieces}
use Rattle.td_host.specs.Served.{RepliesTo, ArePieces, joined, In, Comes, SeatsServed}
use Rattle.td_job_host.specs.HostJobs.{IsShort}
use Rattle.td_cli_input.proofs.Sounds.{at_version}
use Rattle.td_report_host.specs.Report.{HasMessageWords, HasVersion}
use Rattle.td_report_host.specs.Laws.{IsReportable}
use Rattle.td_report_facts.proofs.Laid.{SmallLoad, of_64_bits, plainly_shown, shown_by_stretches}
use Rattle.td_report_facts.specs.Laws.{AreSized, StoresSmall, IsHostSized, HostJobsAreSized, ModulesHaveWords, IsReportableOutcome, RepliesAreReportable}
use Rattle.td_num.proofs.Digits.{are_bytes as bytes_of}

-- ---- lists

module _ {A : Type 0} (P : A → Type 0) where
  pub all_left : (xs ys : List A) → All P (xs ++ ys) → All P xs
  all_left [] ys h = All-nil P
  all_left (x ∷ xs) ys h = All-cons P x xs (All-head P x (xs ++ ys) h) (all_left xs ys (All-tail P x (xs ++ ys) h))

  pub all_right : (xs ys : List A) → All P (xs ++ ys) → All P ys
  all_right [] ys h = h
  all_right (x ∷ xs) ys h = all_right xs ys (All-tail P x (xs ++ ys) h)

  -- what holds of all holds of one that stands there, and the other way round
  of_one : (xs : List A) (x : A) → All P xs → In x xs → P x
  unfolding In
  of_one [] x h i = absurd i
  of_one (y ∷ xs) x h i = ⊎_elim (λ (e : y ≡ x). subst P e (All-head P y xs h)) (λ (q : In x xs). of_one xs x (All-tail P y xs h) q) i

  of_all : (xs : List A) → ((x : A) → In x xs → P x) → All P xs
  unfolding In
  of_all [] f = All-nil P
  of_all (y ∷ xs) f = All-cons P y xs (f y (inl refl)) (of_all xs (λ x q. f x (inr q)))

-- what stands in one of two lists stands in both together
pub in_left : {A : Type 0} (xs ys : List A) (x : A) → In x xs → In x (xs ++ ys)
unfolding In
in_left [] ys x i = absurd i
in_left (y ∷ xs) ys x (inl e) = inl e
in_left (y ∷ xs) ys x (inr i) = inr (in_left xs ys x i)

pub in_right : {A : Type 0} (xs ys : List A) (x : A) → In x ys → In x (xs ++ ys)
unfolding In
in_right [] ys x i = i
in_right (y ∷ xs) ys x i = inr (in_right xs ys x i)

-- ---- what was loaded

abbrev pub SmallPair : ℕ × ℕ → Type 0
SmallPair l = l.1 < 2 ^ 64

abbrev pub SmallReply : Reply → Type 0
SmallReply r = All SmallLoad r.loads.list

pub comes_small : (m : Module) (job : HostJob) → IsHostSized m job → (l : ℕ × ℕ) → Comes job l → SmallPair l
comes_small m job sized l c =
    ⊎_elim
    (λ (e : l.1 ≡ slice_index job.words l.0). subst (λ (v : ℕ). v < 2 ^ 64) (sym e) (sized.words l.0))
    (λ (q : (s : List Step) × In s job.guests × In (l.0, l.1) (stores_of s)).
    of_one SmallPair (stores_of q.0) (l.0, l.1) (of_one StoresSmall job.guests q.0 sized.stores q.1) q.2)
    c

placed_small : (layout : List Stretch) (ls : List Load) → All SmallPair (placed layout ls) → All SmallLoad ls
unfolding placed
placed_small layout [] h = All-nil SmallLoad
placed_small layout (l ∷ ls) h =
    All-cons SmallLoad l ls (All-head SmallPair (buffer_word layout l.word, l.value) (placed layout ls) h) (placed_small layout ls (All-tail SmallPair (buffer_word layout l.word, l.value) (placed layout ls) h))

pieces_small : (mails : List Mail) (rs : List Reply) → All SmallPair (pieces mails rs) → All SmallReply rs
unfolding pieces
pieces_small mails [] h = All-nil SmallReply
pieces_small mails (r ∷ rs) h =
    let first = placed (layout_in mails r) r.loads.list in
    let rest = pieces mails rs in
    All-cons SmallReply r rs (placed_small (layout_in mails r) r.loads.list (all_left SmallPair first rest h)) (pieces_small mails rs (all_right SmallPair first rest h))

shares_small : (mails : List Mail) (vs : List SeatView) (shares : List (List Reply)) → ArePieces mails vs shares → ((v : SeatView) → In v vs → All SmallPair (loads v.steps)) → All SmallReply (joined shares)
unfolding ArePieces joined In
shares_small mails [] [] p f = All-nil SmallReply
shares_small mails [] (share ∷ shares) p f = absurd p
shares_small mails (v ∷ vs) [] p f = absurd p
shares_small mails (v ∷ vs) (share ∷ shares) p f =
    All-append SmallReply share (joined shares)
    (pieces_small mails share (subst (All SmallPair) p.0 (f v (inl refl))))
    (shares_small mails vs shares p.1 (λ u q. f u (inr q)))

-- each load of a seat comes from the job
seat_small : (m : Module) (job : HostJob) (replies : List Reply) (host : HostView) → IsHostSized m job → (s : SeatsServed job replies host) → (v : SeatView) → In v (s.readers ++ s.takers) → All SmallPair (loads v.steps)
seat_small m job replies host sized s v q = of_all SmallPair (loads v.steps) (λ l i. comes_small m job sized l (s.fetched v l q i))

-- each load of a reply stands among those of a seat
pub replies_small : (m : Module) (job : HostJob) (replies : List Reply) (host : HostView) → IsHostSized m job → SeatsServed job replies host → All SmallReply replies
replies_small m job replies host sized s =
    All-permutation SmallReply (joined s.divided.shares) replies s.divided.each_once
    (shares_small (all_mails 1 job.guests) s.readers s.divided.shares s.divided.are_pieces
    (λ v q. seat_small m job replies host sized s v (in_left s.readers s.takers v q)))

-- and so does each load of a taker's seat
pub takers_small : (m : Module) (job : HostJob) (replies : List Reply) (host : HostView) → IsHostSized m job → (s : SeatsServed job replies host) → (v : SeatView) → In v s.takers → All SmallPair (loads v.steps)
takers_small m job replies host sized s v q = seat_small m job replies host sized s v (in_right s.readers s.takers v q)

-- ---- how a report names it

-- the loads of a message of at most a MiB, by its list of stretches where it has one
shown_of : (base size : ℕ) (o : Option (List Stretch)) (ls : List Load) → AreSized o → length_in (laid_at base size o) ≤ MOST_BYTES → Inside (laid_at base size o) ls → All SmallLoad ls
    → All (IsShownLoad o) ls
shown_of base size None ls sized short inside small = plainly_shown ls (of_64_bits (laid_at base size None) ls short inside small)
shown_of base size (Some layout) ls sized short inside small = shown_by_stretches layout ls sized short inside (of_64_bits layout ls short inside small)

numbers_of : (base size : ℕ) (o : Option (List Stretch)) (ls : List Load) → Inside (laid_at base size o) ls → All (λ (l : Load). IsNumberOf o l.word) ls
numbers_of base size None ls inside = All-weaker (λ (l : Load). l.word < count_in (laid_at base size None)) (λ (l : Load). IsNumberOf None l.word) (λ l h. tt) ls inside
numbers_of base size (Some layout) ls inside = inside

message_words : (job : HostJob) (p : Mail) (r : Reply) → IsReplyTo job p r → HasMessageWords r
message_words job p r reply =
    subst (λ (o : Option (List Stretch)). All (λ (l : Load). IsNumberOf o l.word) r.loads.list) (sym reply.under.layout) (numbers_of p.base p.length (list_of p) r.loads.list reply.under.fetched.inside)

pub all_message_words : (job : HostJob) (ps : List Mail) (rs : List Reply) → RepliesTo job ps rs → All HasMessageWords rs
unfolding RepliesTo
all_message_words job [] [] h = All-nil HasMessageWords
all_message_words job [] (r ∷ rs) h = absurd h
all_message_words job (p ∷ ps) [] h = absurd h
all_message_words job (p ∷ ps) (r ∷ rs) h = All-cons HasMessageWords r rs (message_words job p r h.0) (all_message_words job ps rs h.1)

pub all_versions : (job : HostJob) (ps : List Mail) (rs : List Reply) → RepliesTo job ps rs → All (HasVersion job.formats job.entries) rs
unfolding RepliesTo
all_versions job [] [] h = All-nil (HasVersion job.formats job.entries)
all_versions job [] (r ∷ rs) h = absurd h
all_versions job (p ∷ ps) [] h = absurd h
all_versions job (p ∷ ps) (r ∷ rs) h =
    let here : IsReplyTo job p r = h.0 in
    let version : HasVersion job.formats job.entries r = record {
      format = slice_get_within job.formats r.version here.format here.version.0;
      entry = slice_get_within job.entries r.version here.entry here.version.1;
    } in
    All-cons (HasVersion job.formats job.entries) r rs version (all_versions job ps rs h.1)

-- ---- names of posts

-- the guest is below c, and the post's number is at most b
abbrev pub Numbered : ℕ → ℕ → Mail → Type 0
Numbered b c m = (m.name.guest < c) × (m.name.number ≤ b)

script_numbered : (b c g n made : ℕ) (steps : List Step) → n + length (mails_from g n made steps) ≤ b + 1 → g < c → All (Numbered b c) (mails_from g n made steps)
unfolding mails_from
script_numbered b c g n made [] le lt = All-nil (Numbered b c)
script_numbered b c g n made (Store word value ∷ steps) le lt = script_numbered b c g n (made + 1) steps le lt
script_numbered b c g n made (Post base size ∷ steps) le lt =
    let few : n ≤ b = omega (arith, le) in
    let later : n + 1 + length (mails_from g (n + 1) made steps) ≤ b + 1 = omega (arith, le) in
    All-cons (Numbered b c) (mail (post_name g n) made base size) (mails_from g (n + 1) made steps) (lt, few) (script_numbered b c g (n + 1) made steps later lt)
script_numbered b c g n made (Scatter layout ∷ steps) le lt =
    let few : n ≤ b = omega (arith, le) in
    let later : n + 1 + length (mails_from g (n + 1) made steps) ≤ b + 1 = omega (arith, le) in
    All-cons (Numbered b c) (scattered (post_name g n) made layout) (mails_from g (n + 1) made steps) (lt, few) (script_numbered b c g (n + 1) made steps later lt)

pub all_numbered : (b c g : ℕ) (scripts : List (List Step)) → length (all_mails g scripts) ≤ b → g + length scripts ≤ c → All (Numbered b c) (all_mails g scripts)
unfolding all_mails
all_numbered b c g [] le lt = All-nil (Numbered b c)
all_numbered b c g (script ∷ scripts) le lt =
    let both = length-append (mails_of g script) (all_mails (g + 1) scripts) in
    All-append (Numbered b c) (mails_of g script) (all_mails (g + 1) scripts)
    (script_numbered b c g 1 0 script (omega (arith, both, le)) (omega (arith, lt)))
    (all_numbered b c (g + 1) scripts (omega (arith, both, le)) (omega (arith, lt)))

-- ---- replies

-- what the crates below say
pub record Below : Type 0 where
  pub checked : ModulesAreChecked
  pub sized : HostJobsAreSized
  pub words : ModulesHaveWords
  pub told : RepliesAreReportable
  pub carry : (layout : List Stretch) (ls : List Load) → IsRising ls → (b : List ℕ) × Carries layout b ls × All (λ x. x < 256) b

abbrev pub Sized : Mail → Type 0
Sized m = AreSized (list_of m)

module _ (below : Below) (m : Module) (job : HostJob) (checked : All IsChecked job.formats) (sized : IsHostSized m job) where
  reply_told : (p : Mail) (r : Reply) → (reply : IsReplyTo job p r) → IsShort p → IsReportableOutcome reply.format reply.entry (outcome_in r)
  reply_told p r reply short =
      let message = below.carry (layout_of p) r.loads.list reply.under.fetched.rising in
      let b = message.0 in
      let bytes : AreBytes b = bytes_of b message.2 in
      let long : length b ≤ 1048576 = (let size = message.1.size in let limit = short.bytes in omega (arith, size, limit)) in
      let own = at_version job.formats r.version reply.format checked reply.version.0 in
      let told : IsReportableOutcome reply.format reply.entry (outcome reply.format reply.entry job.args (zeros job.cells) b) = below.told m job b r.version reply.format reply.entry reply.version own sized bytes long in
      subst (IsReportableOutcome reply.format reply.entry) (reply.under.fetched.holds b message.1 bytes).same told

  reportable : (p : Mail) (r : Reply) → IsReplyTo job p r → SmallReply r → Numbered 4096 17 p → IsShort p → Sized p → IsReportable job.formats job.entries r
  reportable p r reply small numbered short sized_mail =
      let told = reply_told p r reply short in
      let guest : r.guest ≡ p.name.guest = ap (λ (n : PostName). n.guest) reply.under.name in
      let number : r.number ≡ p.name.number = ap (λ (n : PostName). n.number) reply.under.name in
      let few : p.name.guest < 17 = numbered.0 in
      let low : p.name.number ≤ 4096 = numbered.1 in
      let within = slice_get_within job.formats r.version reply.format reply.version.0 in
      let versions = sized.kept.few_versions in
      record {
        format = reply.format;
        entry = reply.entry;
        is_format = reply.version.0;
        is_entry = reply.version.1;
        guest = omega (arith, guest, few);
        number = omega (arith, number, low);
        version = omega (arith, within, versions);
        run = record {
          named = told.named;
          frames = told.frames;
          cells = told.cells;
          copies = told.copies;
          loads = subst (λ (o : Option (List Stretch)). All (IsShownLoad o) r.loads.list) (sym reply.under.layout) (shown_of p.base p.length (list_of p) r.loads.list sized_mail short.bytes reply.under.fetched.inside small);
        };
      }

  abbrev pub Told : Reply → Type 0
  Told r = IsReportable job.formats job.entries r

  pub all_reportable : (ps : List Mail) (rs : List Reply) → RepliesTo job ps rs → All SmallReply rs → All (Numbered 4096 17) ps → All IsShort ps → All Sized ps → All Told rs
  unfolding RepliesTo
  all_reportable [] [] h small numbered short mails = All-nil Told
  all_reportable [] (r ∷ rs) h small numbered short mails = absurd h
  all_reportable (p ∷ ps) [] h small numbered short mails = absurd h
  all_reportable (p ∷ ps) (r ∷ rs) h small numbered short mails =
      All-cons Told r rs
      (reportable p r h.0 (All-head SmallReply r rs small) (All-head (Numbered 4096 17) p ps numbered) (All-head IsShort p ps short) (All-head Sized p ps mails))
      (all_reportable ps rs h.1 (All-tail SmallReply r rs small) (All-tail (Numbered 4096 17) p ps numbered) (All-tail IsShort p ps short) (All-tail Sized p ps mails))
