-- Texts of string tables.
use Rattle.std.proofs.Common.{◌≡◌, ◌≢◌, ◌<◌, ℕ, List, length, take, drop, Option, Some, None, refl, sym, ap, ◌∙◌, arith, subst}
use Rattle.std.specs.Prelude.{◌==◌, ◌↔◌, IsTrue}
use Rattle.std.specs.Option.{is_some}
use Rattle.std.specs.List.{before_first, position_or_len}
use Rattle.std.proofs.lemmas.Bool.{eq-eqb, ne_eqb, false≢true}
use Rattle.std.proofs.lemmas.List.{length-drop, length-take, get_or-drop}
use Rattle.std.proofs.lemmas.List.Sums.{position_or_len_is}
use Rattle.elf_model.specs.Constants.{nobits, strtab}
use Rattle.elf_model.specs.Files.{header, contents, text_at, EndsAt, IsKind}
use Rattle.elf_read.specs.Faults.{IsHeader}
use Rattle.elf_read.specs.HeaderFaults.{IsTabled}
use Rattle.elf_read.specs.Texts.{IsText, HasNoText, IsTextOrNone}

-- a section's contents are as long as its header says
pub whole : (b : List ℕ) (h : ℕ) → IsTabled b → IsHeader b h → (header b h).kind ≢ nobits → length (contents b h) ≡ (header b h).size
whole b h t i kind =
    let inside = t.inside h i kind in
    omega (arith, length-take (header b h).size (drop (header b h).offset b), length-drop (header b h).offset b)

pub string_header : (b : List ℕ) (h : ℕ) → IsKind b h strtab → IsHeader b h
string_header b h k = record { behind_null = k.0; there = k.1 }

pub strings_filled : (b : List ℕ) (h : ℕ) → IsKind b h strtab → (header b h).kind ≢ nobits
strings_filled b h k = λ e. omega (arith, k.2, e)

pub string_size : (b : List ℕ) (h : ℕ) → IsTabled b → IsKind b h strtab → length (contents b h) ≡ (header b h).size
string_size b h t k = whole b h t (string_header b h k) (strings_filled b h k)

pub text_ends : (b : List ℕ) (h at n : ℕ) → IsTabled b → IsKind b h strtab → IsText (contents b h) at n → EndsAt b h at
text_ends b h at n t k x = let long = string_size b h t k in (n, x.short, omega (arith, x.inside), x.ends)

pub endless : (b : List ℕ) (h at : ℕ) → IsTabled b → IsKind b h strtab → HasNoText (contents b h) at → EndsAt b h at → ⊥
endless b h at t k none e = let long = string_size b h t k in none e.0 e.1 (omega (arith, e.2)) e.3

-- the text is what stands before its NUL
pub text_is : (table : List ℕ) (at n : ℕ) → IsText table at n → take n (drop at table) ≡ before_first (λ c. c == 0) (drop at table)
text_is table at n x =
    let here = drop at table in
    let inside = x.inside in
    let long : n < length here = omega (arith, length-drop at table) in
    let place : position_or_len (λ c. c == 0) here ≡ n =
    position_or_len_is (λ c. c == 0) here n 0 (omega arith)
    (λ k lt. ne_eqb _ 0 (λ e. x.none_before k lt (sym (get_or-drop at table k 0) ∙ e)))
    (λ _. eq-eqb _ 0 (get_or-drop at table n 0 ∙ x.ends)) in
    ap (λ (k : ℕ). take k here) (sym place)

decides_here : (b : List ℕ) (h at : ℕ) (r : Option ℕ) → IsTabled b → IsKind b h strtab → IsTextOrNone (contents b h) at r → IsTrue (is_some r) ↔ EndsAt b h at
decides_here b h at None t k x = (λ e. absurd (false≢true e), λ e. absurd (endless b h at t k x e))
decides_here b h at (Some n) t k x = (λ e. text_ends b h at n t k x, λ e. refl)

pub text_decides : (b : List ℕ) (h at : ℕ) (table : List ℕ) (r : Option ℕ) → IsTabled b → IsKind b h strtab → table ≡ contents b h → IsTextOrNone table at r → IsTrue (is_some r) ↔ EndsAt b h at
text_decides b h at table r t k same x = decides_here b h at r t k (subst (λ (s : List ℕ). IsTextOrNone s at r) same x)

pub text_read : (b : List ℕ) (h at n m : ℕ) (table : List ℕ) → table ≡ contents b h → m ≡ n → IsText table at n → take m (drop at table) ≡ text_at b h at
text_read b h at n m table same e x =
    ap (λ (k : ℕ). take k (drop at table)) e ∙ text_is table at n x ∙ ap (λ (s : List ℕ). before_first (λ c. c == 0) (drop at s)) same

pub text_there : (b : List ℕ) (h at : ℕ) (table : List ℕ) → IsTabled b → IsKind b h strtab → EndsAt b h at → table ≡ contents b h → HasNoText table at → ⊥
text_there b h at table t k e same none = endless b h at t k (subst (λ (s : List ℕ). HasNoText s at) same none) e
