-- Memory may run out only once the first name was read, where there is one.
use Rattle.std.proofs.Common.{◌≡◌, ℕ, zero, suc, ◌<◌, inl, inr, Bool, ◌&&◌, ◌||◌, not, List, [], ◌∷◌, length, Ok, ap, ◌∙◌, arith}
use Rattle.std.specs.Prelude.{nat_le, nat_lt, ◌==◌}
use Rattle.std.specs.Int.{Width as Size, w16, w32}
use Rattle.td_names.specs.Names.{is_seen, with_name}
use Rattle.td_image.specs.declared.fault.Cause.{Cause}
use Rattle.td_image.specs.declared.fault.Cause.TheVariants.{Magic, Field}
use Rattle.td_image.specs.declared.limits.TheConstants.{MAGIC}
use Rattle.td_image.specs.declared.counts.Counts.{Counts}
use Rattle.td_image.specs.declared.version.ImageVersion.{ImageVersion}
use Rattle.td_image.specs.Format.{◌>>=◌, Format, HasFront, number, text, allowed, ◌then◌, made, read_all}
use Rattle.td_image.specs.Names.{is_image_name}
use Rattle.td_image.specs.Versions.{most_rows, most_instructions}
use Rattle.td_image.specs.Image.{constant, version, header, name, counts_of, image}
use Rattle.td_image.specs.Answer.{MayRunOut}
use Rattle.td_image.proofs.Exact.{bind_ok}
use Rattle.td_image.proofs.Whole.{header_exact, names_exact}

-- no memory is taken as it is read
record IsFree {A : Type 0} (g : Format A) : Type 0 where
  pub none : (bytes : List ℕ) → g.RunsOut bytes → ⊥

choice_free : (w : Size) (ok : ℕ → Bool) → IsFree (allowed Field ok (number w))
choice_free w ok = record { none = λ bytes out. out }

constant_free : (w : Size) (cause : Cause) (n : ℕ) → IsFree (constant w cause n)
constant_free w cause n = record { none = λ bytes out. out }

then_free : {A B : Type 0} (g : Format A) (h : A → Format B) → IsFree g → ((a : A) → IsFree (h a)) → IsFree (g then h)
then_free g h G H = record {
  none = λ bytes out. elim out [
    | inl front ↦ G.none bytes front
    | inr p ↦ (H p.0).none p.1 p.3
  ];
}

made_free : {A B : Type 0} (to : A → B) (from : B → A) (g : Format A) → IsFree g → IsFree (made to from g)
made_free to from g G = record { none = G.none }

version_free : IsFree version
version_free = record { none = λ bytes out. out }

header_free : IsFree header
unfolding header
header_free =
    made_free _ _ _ (then_free _ _ (constant_free w32 Magic MAGIC) (λ magic. then_free _ _ version_free (λ v. then_free _ _ (constant_free w16 Field 0) (λ zeros.
    then_free _ _ (choice_free w32 (λ n. nat_le n (most_rows v))) (λ names. then_free _ _ (choice_free w32 (λ n. nat_le n (most_rows v))) (λ sites. then_free _ _ (choice_free w32 (λ n. nat_le n (most_rows v))) (λ maps.
    then_free _ _ (choice_free w32 (λ n. nat_le n (most_rows v))) (λ sets. then_free _ _ (choice_free w32 (λ n. nat_le n (most_rows v))) (λ routines. then_free _ _ (choice_free w32 (λ n. nat_le n (most_rows v))) (λ entries.
    choice_free w32 (λ n. nat_le n (most_instructions v) && (nat_lt 0 routines || (n == 0)))))))))))))

name_free : (v : ImageVersion) (seen : List (List ℕ)) → IsFree (name v seen)
unfolding name
name_free v seen =
    made_free (λ x. x.1) (λ xs. (length xs, xs)) _ (then_free (allowed Field (λ n. nat_le 1 n) (number w32)) (λ n. allowed Field (λ t. is_image_name v t && not (is_seen seen t)) (text n))
    (choice_free w32 (λ n. nat_le 1 n)) (λ n. record { none = λ bytes out. out }))

-- where so many are read, the first one is
first_read : {S A : Type 0} (f : S → Format A) (next : S → A → S) (n : ℕ) (s : S) (bytes : List ℕ) (xs : List A) (rest : List ℕ) → 0 < n → read_all f next n s bytes ≡ Ok (xs, rest) → HasFront (f s) bytes
unfolding read_all
first_read f next zero s bytes xs rest some e = absurd (omega arith)
first_read f next (suc n) s bytes xs rest some e =
    let p = bind_ok ((f s).read bytes) (λ x. read_all f next n (next s x.0) x.1 >>= λ y. Ok (x.0 ∷ y.0, y.1)) (xs, rest) e in
    (p.0.0, p.0.1, p.1)

pub none_for_counts : (bytes : List ℕ) → MayRunOut bytes → (counts : Counts) × (rest : List ℕ) × (header.read bytes ≡ Ok (counts, rest)) × (0 < counts.names → HasFront (name counts.version []) rest)
unfolding image
none_for_counts bytes (inl out) = elim out [
  | inl front ↦ absurd (header_free.none bytes front)
  | inr p ↦ (
    p.0,
    p.1,
    p.2,
    λ some. elim p.3 [
      | inl row ↦ elim row.1 [
        | inl within ↦ absurd ((name_free p.0.version []).none p.1 within)
        | inr front ↦ front
      ]
      | inr q ↦ first_read (name p.0.version) with_name p.0.names [] p.1 q.0 q.1 some q.2
    ],
  )
]
none_for_counts bytes (inr (p, (s, (fits, same), is))) = (
  counts_of s.version s.parts,
  _,
  ap header.read same ∙ header_exact.again (counts_of s.version s.parts) _ fits.0,
  λ some. first_read (name s.version) with_name (length s.parts.names) [] _ s.parts.names _ some ((names_exact s.version (length s.parts.names)).again s.parts.names _ fits.1.0),
)
