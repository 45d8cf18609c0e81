-- The grammar, run on lines that it has.
use Rattle.std.proofs.Common.{◌≡◌, ◌<◌, ◌^◌, true, false, List, [], ◌∷◌, ◌++◌, ◌⊎◌, None, codes, refl, sym, inl, inr, lit<, lit≤, arith}
use Rattle.std.specs.Prelude.{All, AllPairs}
use Rattle.std.proofs.lemmas.Fmt.{decimal_digit, decimal_step}
use Rattle.std.proofs.lemmas.List.Elements.{All-nil, All-cons}
use Rattle.std.proofs.lemmas.List.Quantifiers.{all_pairs_push}
use Rattle.skip_machine.specs.Plans.{IsPlanText}
use Rattle.thumb_table.specs.Layouts.{IsPlacement}
use Rattle.guard_words.specs.declared.options.OptionName.TheVariants.{Base, Room, Entry, Steps, Skip}
use Rattle.guard_words.specs.Words.{IsFileName, IsHexDigit, IsNumber, Setting, value_of, IsLink, listed, IsRun}
use Rattle.guard_words.proofs.Arrangements.{AreTwo, HasValue, absent}
use Rattle.skip_machine.proofs.Paces.{at_first, legal_of}

nought : IsHexDigit 48
nought = inl (lit≤ tt, lit≤ tt)

eight : IsHexDigit 56
eight = inl (lit≤ tt, lit≤ tt)

hexadecimal : IsNumber (codes "0x8000") 32768
hexadecimal = inr (record {
  digits = codes "8000";
  text_is = refl;
  some = lit≤ tt;
  few = lit≤ tt;
  each = All-cons IsHexDigit 56 (codes "000") eight (All-cons IsHexDigit 48 (codes "00") nought (All-cons IsHexDigit 48 (codes "0") nought (All-cons IsHexDigit 48 [] nought (All-nil IsHexDigit))));
  value = refl;
})

nine : IsNumber (codes "9") 9
nine = inl (lit< tt, sym (decimal_digit 9 (lit< tt)))

sixty_four : IsNumber (codes "64") 64
sixty_four = inl (lit< tt, rw (decimal_step 64 (lit≤ tt) (lit< tt), decimal_digit 6 (lit< tt)) refl)

is_place : IsPlacement (record { base = 32768; room = 64; stack = 65536 })
is_place = record { base_even = refl; base_fits = lit< tt; room_even = refl; room_low = lit≤ tt; room_high = lit≤ tt; stack_even = refl; stack_low = lit≤ tt; stack_high = lit≤ tt }

abbrev base : Setting
base = record { name = Base; value = codes "0x8000"; joined = false }

abbrev room : Setting
room = record { name = Room; value = codes "64"; joined = true }

abbrev entry : Setting
entry = record { name = Entry; value = codes "f"; joined = false }

abbrev steps : Setting
steps = record { name = Steps; value = codes "9"; joined = false }

abbrev skip : Setting
skip = record { name = Skip; value = codes "0,2"; joined = true }

no_pairs : AllPairs AreTwo []
no_pairs i j d before below = absurd (omega arith)

more_pairs : (ss : List Setting) (s : Setting) → AllPairs AreTwo ss → value_of ss s.name ≡ None → AllPairs AreTwo (ss ++ s ∷ [])
more_pairs ss s pairs none = all_pairs_push AreTwo ss s pairs (absent ss s.name none)

two : AllPairs AreTwo (base ∷ room ∷ [])
two = more_pairs (base ∷ []) room (more_pairs [] base no_pairs refl) refl

five : AllPairs AreTwo (base ∷ room ∷ entry ∷ steps ∷ skip ∷ [])
five = more_pairs (base ∷ room ∷ entry ∷ steps ∷ []) skip (more_pairs (base ∷ room ∷ entry ∷ []) steps (more_pairs (base ∷ room ∷ []) entry two refl) refl) refl

values_two : All HasValue (base ∷ room ∷ [])
values_two = All-cons HasValue base (room ∷ []) (λ e. absurd (omega arith)) (All-cons HasValue room [] (λ e. absurd (omega arith)) (All-nil HasValue))

-- link --base 0x8000 --room=64 i.bin b.o
a_link : IsLink (codes "link" ∷ codes "--base" ∷ codes "0x8000" ∷ codes "--room=64" ∷ codes "i.bin" ∷ codes "b.o" ∷ [])
    (record { at = record { base = 32768; room = 64; stack = 65536 }; output = codes "i.bin"; inputs = codes "b.o" ∷ [] })
a_link = record {
  rest = codes "--base" ∷ codes "0x8000" ∷ codes "--room=64" ∷ codes "i.bin" ∷ codes "b.o" ∷ [];
  settings = base ∷ room ∷ [];
  words_are = refl;
  arranged = record {
    words_are = refl;
    once = two;
    values = values_two;
    names = All-cons IsFileName (codes "i.bin") (codes "b.o" ∷ []) (λ e. absurd (omega arith)) (All-cons IsFileName (codes "b.o") [] (λ e. absurd (omega arith)) (All-nil IsFileName));
  };
  only = All-cons (λ (s : Setting). (s.name ≡ Base) ⊎ (s.name ≡ Room)) base (room ∷ []) (inl refl) (All-cons (λ (s : Setting). (s.name ≡ Base) ⊎ (s.name ≡ Room)) room [] (inr refl) (All-nil (λ (s : Setting). (s.name ≡ Base) ⊎ (s.name ≡ Room))));
  placed = record { base = hexadecimal; room = sixty_four; stack = refl; sound = is_place };
  some = lit≤ tt;
  few = lit≤ tt;
}

a_plan : IsPlanText 2 (codes "0,2") (0 ∷ 2 ∷ [])
a_plan = record {
  reads = rw (decimal_digit 0 (lit< tt), decimal_digit 2 (lit< tt)) refl;
  small = All-cons (λ n. n < 2 ^ 63) 0 (2 ∷ []) (lit< tt) (All-cons (λ n. n < 2 ^ 63) 2 [] (lit< tt) (All-nil (λ n. n < 2 ^ 63)));
  legal = legal_of 2 (lit≤ tt) at_first (0 ∷ 2 ∷ []) (lit≤ tt, lit< tt, lit< tt, (lit≤ tt, lit< tt, lit< tt, tt));
}

-- run --base 0x8000 --room=64 --entry f --steps 9 --skip=0,2 b.o
a_run : IsRun (codes "run" ∷ codes "--base" ∷ codes "0x8000" ∷ codes "--room=64" ∷ codes "--entry" ∷ codes "f" ∷ codes "--steps" ∷ codes "9" ∷ codes "--skip=0,2" ∷ codes "b.o" ∷ [])
    (record { at = record { base = 32768; room = 64; stack = 65536 }; entry = codes "f"; argument = None; steps = 9; skips = listed (0 ∷ 2 ∷ []); inputs = codes "b.o" ∷ [] })
a_run = record {
  rest = codes "--base" ∷ codes "0x8000" ∷ codes "--room=64" ∷ codes "--entry" ∷ codes "f" ∷ codes "--steps" ∷ codes "9" ∷ codes "--skip=0,2" ∷ codes "b.o" ∷ [];
  settings = base ∷ room ∷ entry ∷ steps ∷ skip ∷ [];
  words_are = refl;
  arranged = record {
    words_are = refl;
    once = five;
    values = All-cons HasValue base (room ∷ entry ∷ steps ∷ skip ∷ []) (λ e. absurd (omega arith)) (All-cons HasValue room (entry ∷ steps ∷ skip ∷ []) (λ e. absurd (omega arith))
        (All-cons HasValue entry (steps ∷ skip ∷ []) (λ e. absurd (omega arith)) (All-cons HasValue steps (skip ∷ []) (λ e. absurd (omega arith)) (All-cons HasValue skip [] (λ e. absurd (omega arith)) (All-nil HasValue)))));
    names = All-cons IsFileName (codes "b.o") [] (λ e. absurd (omega arith)) (All-nil IsFileName);
  };
  meant = record {
    placed = record { base = hexadecimal; room = sixty_four; stack = refl; sound = is_place };
    entry = refl;
    argument = tt;
    steps = nine;
    some_steps = lit≤ tt;
    few_steps = lit≤ tt;
    skips = a_plan;
  };
  some = lit≤ tt;
  few = lit≤ tt;
}
