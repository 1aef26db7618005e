-- Texts of variables, one more each time.
use Rattle.std.proofs.Common.{◌≡◌, ℕ, zero, suc, ◌+◌, List, [], ◌∷◌, ◌++◌, map, codes, decimal, flat_map, ap, ◌∙◌, append_assoc, arith}
use Rattle.std.proofs.lemmas.List.{append-nil, map-append}
use Rattle.std.proofs.lemmas.Grind.{flat_map-append}
use Rattle.td_prog.specs.Syntax.{Var, Reg, registers}
use Rattle.td_prog_text.specs.Functions.{declaration, parameter, pointers}
use Rattle.td_prog_text.specs.Statements.{listed}

one_more : (first k : ℕ) → registers first (suc k) ≡ registers first k ++ Reg (first + k) ∷ []
one_more first zero = let e : first ≡ first + 0 = omega arith in ap (λ (n : ℕ). Reg n ∷ []) e
one_more first (suc k) =
    let e : first + 1 + k ≡ first + suc k = omega arith in
    ap (λ (l : List Var). Reg first ∷ l) (one_more (first + 1) k) ∙ ap (λ (n : ℕ). registers first (suc k) ++ Reg n ∷ []) e

registers_push : (first k : ℕ) → registers first (k + 1) ≡ registers first k ++ Reg (first + k) ∷ []
registers_push first k = let e : k + 1 ≡ suc k = omega arith in ap (registers first) e ∙ one_more first k

pub parameters_more : (k : ℕ) → listed (map parameter (registers 0 (k + 1))) ≡ listed (map parameter (registers 0 k)) ++ (codes ", uint64_t r" ++ decimal k)
parameters_more k =
    let e : 0 + k ≡ k = omega arith in
    ap (λ (l : List Var). listed (map parameter l)) (registers_push 0 k ∙ ap (λ (n : ℕ). registers 0 k ++ Reg n ∷ []) e)
    ∙ ap listed (map-append parameter (registers 0 k) (Reg k ∷ []))
    ∙ flat_map-append (λ (l : List ℕ). codes ", " ++ l) (map parameter (registers 0 k)) (parameter (Reg k) ∷ [])
    ∙ ap (λ (l : List ℕ). listed (map parameter (registers 0 k)) ++ l) (append-nil (codes ", uint64_t r" ++ decimal k))

more_pointers : (kind : List ℕ) (first k : ℕ) → pointers kind first (suc k) ≡ pointers kind first k ++ (kind ++ decimal (first + k)) ∷ []
more_pointers kind first zero = let e : first ≡ first + 0 = omega arith in ap (λ (n : ℕ). (kind ++ decimal n) ∷ []) e
more_pointers kind first (suc k) =
    let e : first + 1 + k ≡ first + suc k = omega arith in
    ap (λ (l : List (List ℕ)). (kind ++ decimal first) ∷ l) (more_pointers kind (first + 1) k) ∙ ap (λ (n : ℕ). pointers kind first (suc k) ++ (kind ++ decimal n) ∷ []) e

pub pointers_more : (kind : List ℕ) (k : ℕ) → listed (pointers kind 0 (k + 1)) ≡ listed (pointers kind 0 k) ++ (codes ", " ++ (kind ++ decimal k))
pointers_more kind k =
    let e : k + 1 ≡ suc k = omega arith in
    let z : 0 + k ≡ k = omega arith in
    ap (λ (n : ℕ). listed (pointers kind 0 n)) e
    ∙ ap listed (more_pointers kind 0 k ∙ ap (λ (n : ℕ). pointers kind 0 k ++ (kind ++ decimal n) ∷ []) z)
    ∙ flat_map-append (λ (l : List ℕ). codes ", " ++ l) (pointers kind 0 k) ((kind ++ decimal k) ∷ [])
    ∙ ap (λ (l : List ℕ). listed (pointers kind 0 k) ++ l) (append-nil (codes ", " ++ (kind ++ decimal k)))

declaration_is : (n : ℕ) → declaration (Reg n) ≡ codes "    uint64_t r" ++ (decimal n ++ codes " = 0;\n")
declaration_is n = ap (λ (l : List ℕ). codes "    uint64_t r" ++ l) (append_assoc (decimal n) (codes " = 0;") (codes "\n"))

pub declarations_more : (first k : ℕ) → flat_map declaration (registers first (k + 1)) ≡ flat_map declaration (registers first k) ++ (codes "    uint64_t r" ++ (decimal (first + k) ++ codes " = 0;\n"))
declarations_more first k =
    ap (flat_map declaration) (registers_push first k)
    ∙ flat_map-append declaration (registers first k) (Reg (first + k) ∷ [])
    ∙ ap (λ (l : List ℕ). flat_map declaration (registers first k) ++ l) (append-nil (declaration (Reg (first + k))) ∙ declaration_is (first + k))
