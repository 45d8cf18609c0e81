-- What the instructions of the generated code are, and that each stands where its place is.
use Rattle.std.proofs.Common.{◌≡◌, ℕ, zero, suc, ◌+◌, ◌*◌, ◌/◌, ◌^◌, ◌<◌, Bool, true, false, List, get_or, Some, None, Ok, refl, sym, ap, ◌∙◌, subst, arith, add-one, cond}
use Rattle.std.specs.Prelude.{slice_index, if◌then◌else◌}
use Rattle.elf_model.specs.Fields.{half_at}
use Rattle.elf_model.specs.Ranges.{is_long, length_at}
use Rattle.thumb_instr.specs.declared.instructions.Instr.{Instr}
use Rattle.thumb_instr.specs.declared.refusals.ItPlace.TheVariants.{Outside}
use Rattle.thumb_instr.specs.Operands.{has}
use Rattle.thumb_instr.specs.HalfRows.{half_rows}
use Rattle.thumb_instr.specs.FullRows.{full_rows}
use Rattle.thumb_instr.specs.Rows.{decode_given}
use Rattle.skip_machine.specs.Draws.{draws}
use Rattle.reloc_places.specs.Starts.{decoded_at}
use Rattle.reloc_places.specs.Relocations.{is_bl}
use Rattle.gen_object.specs.Generated.{choices, choice, code_bytes}
use Rattle.gen_flow.specs.GeneratedCode.{pushes, returns, calls, worked, drawn_instr, StandsAt}
use Rattle.gen_flow.specs.GeneratedCode.StandsAt.{first, work, next, back, last}
use Rattle.gen_flow.proofs.CodeHalves.{push_half, work_half, call_half, second_call_half, back_half, last_half}

-- what halfwords stand for
push_decodes : decode_given Outside 0xB510 None ≡ Ok pushes
unfolding half_rows has
push_decodes = refl

return_decodes : decode_given Outside 0xBD10 None ≡ Ok returns
unfolding half_rows has
return_decodes = refl

call_decodes : decode_given Outside 0xF7FF (Some 0xFFFE) ≡ Ok calls
unfolding full_rows
call_decodes = refl

choice_decodes : (n : ℕ) → n < 8 → decode_given Outside (slice_index choices n) None ≡ Ok (get_or worked n pushes)
unfolding half_rows
choice_decodes zero low = refl
choice_decodes (suc zero) low = refl
choice_decodes (suc (suc zero)) low = refl
choice_decodes (suc (suc (suc zero))) low = refl
choice_decodes (suc (suc (suc (suc zero)))) low = refl
choice_decodes (suc (suc (suc (suc (suc zero))))) low = refl
choice_decodes (suc (suc (suc (suc (suc (suc zero)))))) low = refl
choice_decodes (suc (suc (suc (suc (suc (suc (suc zero))))))) low = refl
choice_decodes (suc (suc (suc (suc (suc (suc (suc (suc n)))))))) low = absurd (omega arith)

choice_short : (n : ℕ) → is_long (slice_index choices n) ≡ false
choice_short zero = refl
choice_short (suc zero) = refl
choice_short (suc (suc zero)) = refl
choice_short (suc (suc (suc zero))) = refl
choice_short (suc (suc (suc (suc zero)))) = refl
choice_short (suc (suc (suc (suc (suc zero))))) = refl
choice_short (suc (suc (suc (suc (suc (suc zero)))))) = refl
choice_short (suc (suc (suc (suc (suc (suc (suc zero))))))) = refl
choice_short (suc (suc (suc (suc (suc (suc (suc (suc n)))))))) = refl

-- what holds of each instruction that is drawn
pub worked_each : (t : Instr → Bool) (b : Bool) → t (get_or worked 0 pushes) ≡ b → t (get_or worked 1 pushes) ≡ b → t (get_or worked 2 pushes) ≡ b → t (get_or worked 3 pushes) ≡ b
    → t (get_or worked 4 pushes) ≡ b → t (get_or worked 5 pushes) ≡ b → t (get_or worked 6 pushes) ≡ b → t (get_or worked 7 pushes) ≡ b → t pushes ≡ b → (n : ℕ) → t (get_or worked n pushes) ≡ b
worked_each t b h0 h1 h2 h3 h4 h5 h6 h7 h zero = h0
worked_each t b h0 h1 h2 h3 h4 h5 h6 h7 h (suc zero) = h1
worked_each t b h0 h1 h2 h3 h4 h5 h6 h7 h (suc (suc zero)) = h2
worked_each t b h0 h1 h2 h3 h4 h5 h6 h7 h (suc (suc (suc zero))) = h3
worked_each t b h0 h1 h2 h3 h4 h5 h6 h7 h (suc (suc (suc (suc zero)))) = h4
worked_each t b h0 h1 h2 h3 h4 h5 h6 h7 h (suc (suc (suc (suc (suc zero))))) = h5
worked_each t b h0 h1 h2 h3 h4 h5 h6 h7 h (suc (suc (suc (suc (suc (suc zero)))))) = h6
worked_each t b h0 h1 h2 h3 h4 h5 h6 h7 h (suc (suc (suc (suc (suc (suc (suc zero))))))) = h7
worked_each t b h0 h1 h2 h3 h4 h5 h6 h7 h (suc (suc (suc (suc (suc (suc (suc (suc n)))))))) = h

pub drawn_each : (t : Instr → Bool) (b : Bool) → t (get_or worked 0 pushes) ≡ b → t (get_or worked 1 pushes) ≡ b → t (get_or worked 2 pushes) ≡ b → t (get_or worked 3 pushes) ≡ b
    → t (get_or worked 4 pushes) ≡ b → t (get_or worked 5 pushes) ≡ b → t (get_or worked 6 pushes) ≡ b → t (get_or worked 7 pushes) ≡ b → t pushes ≡ b → (x : ℕ) → t (drawn_instr x) ≡ b
drawn_each t b h0 h1 h2 h3 h4 h5 h6 h7 h x = worked_each t b h0 h1 h2 h3 h4 h5 h6 h7 h (x / 2 ^ 29)

pub drawn_no_call : (x : ℕ) → is_bl (drawn_instr x) ≡ false
drawn_no_call = drawn_each is_bl false refl refl refl refl refl refl refl refl refl

pub draw_small : (s j : ℕ) → draws s (j + 1) < 2 ^ 32
draw_small s j =
    let same : draws s (j + 1) ≡ draws s (suc j) = ap (draws s) (add-one j) in
    let low : draws s (suc j) < 2 ^ 32 = omega arith in
    subst (λ (n : ℕ). n < 2 ^ 32) (sym same) low

drawn_decodes : (x : ℕ) → x < 2 ^ 32 → decode_given Outside (choice x) None ≡ Ok (drawn_instr x)
drawn_decodes x small =
    let low : x / 2 ^ 29 < 8 = omega arith in
    choice_decodes (x / 2 ^ 29) low

-- An instruction that stands at an offset of bytes.
pub record IsInstrAt (bytes : List ℕ) (x : ℕ) (i : Instr) : Type 0 where
  pub wide : is_long (half_at bytes x) ≡ is_bl i
  pub decodes : decoded_at bytes x 0 ≡ Ok i

module _ (bytes : List ℕ) (x h : ℕ) (i : Instr) (is : half_at bytes x ≡ h) where
  short_at : is_long h ≡ false → is_bl i ≡ false → decode_given Outside h None ≡ Ok i → IsInstrAt bytes x i
  short_at short no_call decodes =
      let wide : is_long (half_at bytes x) ≡ is_bl i = ap is_long is ∙ short ∙ sym no_call in
      record {
        wide = wide;
        decodes = ap (λ (b : Bool). decode_given Outside (half_at bytes x) (if b then Some (half_at bytes (x + 2)) else None)) (ap is_long is ∙ short)
            ∙ ap (λ (n : ℕ). decode_given Outside n None) is ∙ decodes;
      }

  long_at : (g : ℕ) → half_at bytes (x + 2) ≡ g → is_long h ≡ true → is_bl i ≡ true → decode_given Outside h (Some g) ≡ Ok i → IsInstrAt bytes x i
  long_at g second long call decodes =
      record {
        wide = ap is_long is ∙ long ∙ sym call;
        decodes = ap (λ (b : Bool). decode_given Outside (half_at bytes x) (if b then Some (half_at bytes (x + 2)) else None)) (ap is_long is ∙ long)
            ∙ ap (λ (n : ℕ). decode_given Outside n (Some (half_at bytes (x + 2)))) is ∙ ap (λ (n : ℕ). decode_given Outside h (Some n)) second ∙ decodes;
      }

-- at its place, whatever that is written as
moved : (bytes : List ℕ) (x y : ℕ) (i j : Instr) → y ≡ x → j ≡ i → IsInstrAt bytes x i → IsInstrAt bytes y j
moved bytes x y i j place same h = subst (λ (a : ℕ). IsInstrAt bytes a j) (sym place) (subst (λ (k : Instr). IsInstrAt bytes x k) (sym same) h)

pub stands_there : (seed count x : ℕ) (i : Instr) → StandsAt seed count x i → IsInstrAt (code_bytes seed count) x i
stands_there seed count x i (first k few place same) =
    moved (code_bytes seed count) (14 * k) x pushes i place same
    (short_at (code_bytes seed count) (14 * k) 0xB510 pushes (push_half seed count k few) refl refl push_decodes)
stands_there seed count x i (work k j few low place same) =
    let d = draws (draws seed (3 * k)) (j + 1) in
    moved (code_bytes seed count) (14 * k + 2 * j + 2) x (drawn_instr d) i place same
    (short_at (code_bytes seed count) (14 * k + 2 * j + 2) (choice d) (drawn_instr d) (work_half seed count k few j low) (choice_short (d / 2 ^ 29)) (drawn_no_call d) (drawn_decodes d (draw_small (draws seed (3 * k)) j)))
stands_there seed count x i (next k more place same) =
    moved (code_bytes seed count) (14 * k + 8) x calls i place same
    (long_at (code_bytes seed count) (14 * k + 8) 0xF7FF calls (call_half seed count k more) 0xFFFE (second_call_half seed count k more) refl refl call_decodes)
stands_there seed count x i (back k more place same) =
    moved (code_bytes seed count) (14 * k + 12) x returns i place same
    (short_at (code_bytes seed count) (14 * k + 12) 0xBD10 returns (back_half seed count k more) refl refl return_decodes)
stands_there seed count x i (last k is place same) =
    moved (code_bytes seed count) (14 * k + 8) x returns i place same
    (short_at (code_bytes seed count) (14 * k + 8) 0xBD10 returns (last_half seed count k is) refl refl return_decodes)

-- An offset has one instruction.
pub stands_once : (seed count x : ℕ) (i j : Instr) → StandsAt seed count x i → StandsAt seed count x j → i ≡ j
stands_once seed count x i j a b =
    let same = sym (stands_there seed count x i a).decodes ∙ (stands_there seed count x j b).decodes in
    cc

pub size_of : (seed count x : ℕ) (i : Instr) → StandsAt seed count x i → length_at (code_bytes seed count) x ≡ cond (is_bl i) 4 2
size_of seed count x i h = ap (λ (b : Bool). cond b 4 2) (stands_there seed count x i h).wide
