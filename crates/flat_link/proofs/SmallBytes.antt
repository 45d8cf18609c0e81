-- Lists of which each element is a byte.
use Rattle.std.proofs.Common.{◌≡◌, ◌<◌, ℕ, zero, suc, ◌+◌, ◌*◌, ◌^◌, Bool, true, false, cond, List, [], ◌∷◌, ◌++◌, length, take, drop, get_or, sym, subst, arith}
use Rattle.std.specs.Prelude.{Contains, ◌==◌, ◌-◌, replicate, max}
use Rattle.std.proofs.lemmas.List.{get_or-drop}
use Rattle.elf_model.specs.declared.objects.Section.{Section}
use Rattle.elf_model.specs.Constants.{nobits}
use Rattle.elf_model.specs.Fields.{half, word}
use Rattle.elf_model.specs.Objects.{ObjectParts, is_code}
use Rattle.elf_model.proofs.Elements.{contains_here, contains_later}
use Rattle.thumb_encode.specs.declared.codes.Code.{Code}
use Rattle.thumb_encode.specs.declared.codes.Code.TheVariants as code
use Rattle.thumb_table.specs.declared.placements.Placement.{Placement}
use Rattle.thumb_table.specs.Layouts.{Placed, part_bytes, bytes_from, code_parts, code_bytes_of}
use Rattle.flat_link.specs.Existing.{HaveBytes}
use Rattle.flat_link.specs.Patches.{put_over, code_bytes}
use Rattle.flat_link.proofs.PartFacts.{comes_from}

abbrev pub AreBytes : List ℕ → Type 0
AreBytes xs = (x : ℕ) → get_or xs x 0 < 256

bytes_append : (xs ys : List ℕ) → AreBytes xs → AreBytes ys → AreBytes (xs ++ ys)
bytes_append [] ys a b x = b x
bytes_append (z ∷ zs) ys a b zero = a 0
bytes_append (z ∷ zs) ys a b (suc x) = bytes_append zs ys (λ j. a (suc j)) b x

bytes_zeros : (n : ℕ) → AreBytes (replicate n 0)
bytes_zeros zero x = omega arith
bytes_zeros (suc n) zero = omega arith
bytes_zeros (suc n) (suc x) = bytes_zeros n x

bytes_take : (n : ℕ) (xs : List ℕ) → AreBytes xs → AreBytes (take n xs)
bytes_take zero xs a x = omega arith
bytes_take (suc n) [] a x = omega arith
bytes_take (suc n) (y ∷ ys) a zero = a 0
bytes_take (suc n) (y ∷ ys) a (suc x) = bytes_take n ys (λ j. a (suc j)) x

bytes_drop : (n : ℕ) (xs : List ℕ) → AreBytes xs → AreBytes (drop n xs)
bytes_drop n xs a x = subst (λ (m : ℕ). m < 256) (sym (get_or-drop n xs x 0)) (a (n + x))

bytes_half : (n : ℕ) → AreBytes (half n)
bytes_half n zero = omega arith
bytes_half n (suc zero) = omega arith
bytes_half n (suc (suc x)) = omega arith

pub bytes_word : (n : ℕ) → AreBytes (word n)
bytes_word n zero = omega arith
bytes_word n (suc zero) = omega arith
bytes_word n (suc (suc zero)) = omega arith
bytes_word n (suc (suc (suc zero))) = omega arith
bytes_word n (suc (suc (suc (suc x)))) = omega arith

pub bytes_code : (c : Code) → AreBytes (code_bytes c)
bytes_code (code.Half h) = bytes_half h
bytes_code (code.Full first second) = bytes_word (first + 2 ^ 16 * second)

pub bytes_put : (old : List ℕ) (x : ℕ) (run : List ℕ) → AreBytes old → AreBytes run → AreBytes (put_over old x run)
bytes_put old x run a b =
    bytes_append (take x old) (run ++ drop (x + length run) old) (bytes_take x old a)
    (bytes_append run (drop (x + length run) old) b (bytes_drop (x + length run) old a))

bytes_part : (s : Section) → AreBytes s.bytes → AreBytes (part_bytes s)
bytes_part s a = go (s.kind == nobits)
  where
    go : (b : Bool) → AreBytes (cond b (replicate s.size 0) s.bytes)
    go true = bytes_zeros s.size
    go false = a

bytes_parts : (ps : List Placed) → ((p : Placed) → Contains ps p → AreBytes p.section.bytes) → (from : ℕ) → AreBytes (bytes_from from ps)
bytes_parts [] all from = λ x. omega arith
bytes_parts (p ∷ ps) all from =
    let gap = replicate (p.start - from) 0 in
    bytes_append (gap ++ part_bytes p.section) (bytes_from (p.start + p.section.size) ps)
    (bytes_append gap (part_bytes p.section) (bytes_zeros (p.start - from)) (bytes_part p.section (all p (contains_here p ps))))
    (bytes_parts ps (λ q c. all q (contains_later p ps q c)) (p.start + p.section.size))

pub code_small : (objects : List ObjectParts) (at : Placement) → HaveBytes objects → AreBytes (code_bytes_of objects at)
code_small objects at have =
    bytes_parts (code_parts objects at)
    (λ p c. let h = comes_from is_code (λ s. max 4 s.align) at.base objects p c in have h.number p.index h.object p.section h.there h.section) at.base
