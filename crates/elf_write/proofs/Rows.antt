-- The rows of symbols and relocations, one after the other.
use Rattle.std.proofs.Common.{◌≡◌, ◌<◌, subst, ℕ, ◌+◌, Bool, true, false, cond, List, [], ◌∷◌, ◌++◌, length, get_or, take, drop, refl, sym, ap, ◌∙◌, arith, map, filter}
use Rattle.std.specs.Prelude.{◌==◌, nat_le, All}
use Rattle.std.specs.List.{flat_map, prefix_len}
use Rattle.std.proofs.lemmas.List.{append_assoc, append-nil, map-append, take_at, drop_at, take_more, drop-drop, take-append-drop}
use Rattle.std.proofs.Math.Seq.{take-add}
use Rattle.std.proofs.lemmas.List.Elements.{All-head, All-tail, All-nil, All-cons, All-append}
use Rattle.std.proofs.lemmas.Grind.{flat_map-append}
use Rattle.std.proofs.lemmas.Option.{slice_get-get_or}
use Rattle.std.proofs.lemmas.Bool.Decides.{nat_tests}
use Rattle.elf_model.specs.declared.objects.Symbol.{Symbol}
use Rattle.elf_model.specs.declared.objects.Reloc.{Reloc}
use Rattle.elf_model.specs.Objects.{rise}
use Rattle.elf_model.specs.Canonical.{name_offset, symbol_row, symbol_row_with}
use Rattle.elf_model.proofs.Lists.{get_map}
use Rattle.elf_model.proofs.Sorted.{in_from, in_one, in_from_split, none_from}
use Rattle.elf_write.specs.Writing.{FitBefore}
use Rattle.elf_model.specs.Fits.{RelocFits}
use Rattle.elf_write.proofs.StringTables.{offset_more}

abbrev pub names_in : List Symbol → List (List ℕ)
names_in xs = map (λ (s : Symbol). s.name) xs

symbols_same : (a b : List (List ℕ)) (xs : List Symbol) → All (λ (s : Symbol). name_offset a s.name ≡ name_offset b s.name) xs → flat_map (symbol_row a) xs ≡ flat_map (symbol_row b) xs
symbols_same a b [] h = refl
symbols_same a b (x ∷ xs) h =
    ap (λ (n : ℕ). symbol_row_with n x ++ flat_map (symbol_row a) xs) (All-head (λ (s : Symbol). name_offset a s.name ≡ name_offset b s.name) x xs h)
    ∙ ap (λ (l : List ℕ). symbol_row b x ++ l) (symbols_same a b xs (All-tail (λ (s : Symbol). name_offset a s.name ≡ name_offset b s.name) x xs h))

-- one more symbol, whose name has been added
pub one_symbol : (xs : List Symbol) (s : Symbol) (pre rows more : List ℕ) (offset : ℕ) → rows ≡ pre ++ flat_map (symbol_row (names_in xs)) xs → offset ≡ name_offset (names_in xs ++ s.name ∷ []) s.name
    → more ≡ rows ++ symbol_row_with offset s → more ≡ pre ++ flat_map (symbol_row (names_in (xs ++ s ∷ []))) (xs ++ s ∷ [])
one_symbol xs s pre rows more offset h o e =
    let names : List (List ℕ) = names_in xs ++ s.name ∷ [] in
    let same : flat_map (symbol_row (names_in xs)) xs ≡ flat_map (symbol_row names) xs = sym (symbols_same names (names_in xs) xs (λ k d l. offset_more (names_in xs) (s.name ∷ []) k (get_or xs k d).name
    (get_map (λ (x : Symbol). x.name) xs k (get_or xs k d) (slice_get-get_or xs k d l)))) in
    e ∙ ap (λ (l : List ℕ). l ++ symbol_row_with offset s) (h ∙ ap (λ (l : List ℕ). pre ++ l) same)
    ∙ ap (λ (n : ℕ). (pre ++ flat_map (symbol_row names) xs) ++ symbol_row_with n s) o
    ∙ append_assoc pre (flat_map (symbol_row names) xs) (symbol_row names s)
    ∙ ap (λ (l : List ℕ). pre ++ l) (ap (λ (l : List ℕ). flat_map (symbol_row names) xs ++ l) (sym (append-nil (symbol_row names s))) ∙ sym (flat_map-append (symbol_row names) xs (s ∷ [])))
    ∙ ap (λ (ns : List (List ℕ)). pre ++ flat_map (symbol_row ns) (xs ++ s ∷ [])) (sym (map-append (λ (x : Symbol). x.name) xs (s ∷ [])))

-- those that pass come first
prefix_passed : (p : Reloc → Bool) (xs ys : List Reloc) → prefix_len p (filter p xs ++ ys) ≡ length (filter p xs) + prefix_len p ys
prefix_passed p [] ys = omega arith
prefix_passed p (x ∷ xs) ys = go (prefix_passed p xs ys) (p x) refl
  where
    go : prefix_len p (filter p xs ++ ys) ≡ length (filter p xs) + prefix_len p ys → (t : Bool) → p x ≡ t → prefix_len p (cond t (x ∷ filter p xs) (filter p xs) ++ ys) ≡ length (cond t (x ∷ filter p xs) (filter p xs)) + prefix_len p ys
    go rest true e = ap (λ (t : Bool). cond t (1 + prefix_len p (filter p xs ++ ys)) 0) e ∙ omega (arith, rest)
    go rest false e = rest

-- none of the sections behind is this one
prefix_behind : (i : ℕ) (ys : List Reloc) → prefix_len (λ r. r.section == i) (in_from (i + 1) ys) ≡ 0
prefix_behind i [] = refl
prefix_behind i (y ∷ ys) = go (prefix_behind i ys) (nat_le (i + 1) y.section) refl
  where
    other : nat_le (i + 1) y.section ≡ true → (y.section == i) ≡ false
    other h = grind (arith, nat_tests)

    go : prefix_len (λ r. r.section == i) (in_from (i + 1) ys) ≡ 0 → (t : Bool) → nat_le (i + 1) y.section ≡ t → prefix_len (λ r. r.section == i) (cond t (y ∷ in_from (i + 1) ys) (in_from (i + 1) ys)) ≡ 0
    go rest true e = ap (λ (t : Bool). cond t (1 + prefix_len (λ r. r.section == i) (in_from (i + 1) ys)) 0) (other e)
    go rest false e = rest

pub run_is : (i : ℕ) (rs rest : List Reloc) (n : ℕ) → rise rs ≡ true → rest ≡ in_from i rs → n ≡ prefix_len (λ r. r.section == i) rest → (take n rest ≡ in_one i rs) × (drop n rest ≡ in_from (i + 1) rs)
run_is i rs rest n h e l =
    let split : rest ≡ in_one i rs ++ in_from (i + 1) rs = e ∙ in_from_split i rs h in
    let run = prefix_passed (λ r. r.section == i) rs (in_from (i + 1) rs) in
    let behind = prefix_behind i rs in
    let long : length (in_one i rs) ≡ n = sym (l ∙ ap (prefix_len (λ r. r.section == i)) split ∙ run ∙ ap (λ (k : ℕ). length (in_one i rs) + k) behind ∙ omega arith) in
    (ap (take n) split ∙ take_at (in_one i rs) (in_from (i + 1) rs) n long, ap (drop n) split ∙ drop_at (in_one i rs) (in_from (i + 1) rs) n long)

-- what holds of those so far and of the next holds of one more
pub all_more : {X : Type 0} (P : X → Type 0) (xs : List X) (i : ℕ) (d : X) → i < length xs → P (get_or xs i d) → All P (take i xs) → All P (take (i + 1) xs)
all_more P xs i d l p a = subst (All P) (sym (take_more xs i d l)) (All-append P (take i xs) (get_or xs i d ∷ []) a (All-cons P (get_or xs i d) [] p (All-nil P)))

-- the relocations before the rest were read
pub none_read : (all : List Reloc) → FitBefore all all
none_read all = record { count = 0; rest_is = refl; fit = All-nil RelocFits }

pub run_read : (all rest run more : List Reloc) (n : ℕ) → FitBefore all rest → take n rest ≡ run → drop n rest ≡ more → All RelocFits run → FitBefore all more
run_read all rest run more n f t d a = record {
  count = f.count + n;
  rest_is = sym (drop-drop n f.count all) ∙ ap (drop n) f.rest_is ∙ d;
  fit = subst (All RelocFits) (sym (take-add f.count n all)) (All-append RelocFits (take f.count all) (take n (drop f.count all)) f.fit (subst (All RelocFits) (sym (ap (take n) f.rest_is ∙ t)) a));
}

pub all_read : (all rest : List Reloc) (count : ℕ) → FitBefore all rest → rest ≡ in_from count all → All (λ (r : Reloc). r.section < count) all → All RelocFits all
all_read all rest count f e a =
    let nothing : drop f.count all ≡ [] = f.rest_is ∙ e ∙ none_from count all a in
    subst (All RelocFits) (sym (append-nil (take f.count all)) ∙ ap (λ (l : List Reloc). take f.count all ++ l) (sym nothing) ∙ take-append-drop f.count all) f.fit
