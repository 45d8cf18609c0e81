-- The object that is generated from a seed.
use Rattle.std.specs.Prelude.{ℕ, ◌+◌, ◌-◌, ◌*◌, ◌/◌, ◌^◌, nat_lt, Bool, List, [], ◌∷◌, ◌++◌, length, map, slice_index, if◌then◌else◌, codes}
use Rattle.std.specs.List.{flat_map, range_with_len}
use Rattle.std.specs.Fmt.{decimal}
use Rattle.elf_model.specs.declared.objects.Section.{Section}
use Rattle.elf_model.specs.declared.objects.Symbol.{Symbol}
use Rattle.elf_model.specs.declared.objects.Reloc.{Reloc}
use Rattle.elf_model.specs.declared.objects.RelocKind.TheVariants.{ThmCall}
use Rattle.elf_model.specs.declared.objects.Home.TheVariants as home
use Rattle.elf_model.specs.Constants.{progbits, local, global, notype, func}
use Rattle.elf_model.specs.Fields.{half}
use Rattle.elf_model.specs.Objects.{ObjectParts}
use Rattle.skip_machine.specs.Draws.{draws}

-- adds r0, #1; movs r1, #7; muls r0, r1, r0; eors r0, r1; lsls r2, r0, #3; adds r0, r0, r2; rsbs r0, r0, #0; mvns r2, r1
abbrev pub choices : List ℕ
choices = 0x3001 ∷ 0x2107 ∷ 0x4348 ∷ 0x4048 ∷ 0x00C2 ∷ 0x1880 ∷ 0x4240 ∷ 0x43CA ∷ []

-- the top three bits of a number choose
abbrev pub choice : ℕ → ℕ
choice x = slice_index choices (x / 2 ^ 29)

-- push {r4, lr}; the three instructions that are drawn from a number on; a bl to a symbol; pop {r4, pc}
abbrev pub function_halves : ℕ → Bool → List ℕ
function_halves x calls =
    0xB510 ∷ choice (draws x 1) ∷ choice (draws x 2) ∷ choice (draws x 3) ∷ (if calls then 0xF7FF ∷ 0xFFFE ∷ [] else []) ++ 0xBD10 ∷ []

abbrev pub function_size : Bool → ℕ
function_size calls = if calls then 14 else 10

-- of so many functions, each but the last calls the next one
abbrev pub calls_next : ℕ → ℕ → Bool
calls_next count k = nat_lt (k + 1) count

-- Function k stands at offset 14 k. The draws of the functions before it come first.
abbrev pub function_bytes : ℕ → ℕ → ℕ → List ℕ
function_bytes seed count k = flat_map half (function_halves (draws seed (3 * k)) (calls_next count k))

abbrev pub code_bytes : ℕ → ℕ → List ℕ
code_bytes seed count = flat_map (function_bytes seed count) (range_with_len 0 count)

abbrev pub text_section : List ℕ → Section
text_section bytes = record { name = codes ".text"; kind = progbits; flags = 6; align = 4; entry = 0; size = length bytes; bytes = bytes }

-- the mapping symbol of code, at the start of the section
abbrev pub code_symbol : Symbol
code_symbol = record { name = codes "$t"; value = 0; size = 0; bind = local; kind = notype; other = 0; home = home.Section 0 }

-- bit 0 of a function's value says that it is Thumb code
abbrev pub function_symbol : ℕ → ℕ → Symbol
function_symbol count k = record {
  name = codes "f" ++ decimal k;
  value = 14 * k + 1;
  size = function_size (calls_next count k);
  bind = global;
  kind = func;
  other = 0;
  home = home.Section 0;
}

-- Function k calls function k + 1, which is symbol k + 2.
abbrev pub call : ℕ → Reloc
call k = record { section = 0; offset = 14 * k + 8; kind = ThmCall; symbol = k + 2 }

abbrev pub generated : ℕ → ℕ → ObjectParts
generated seed count = record {
  sections = text_section (code_bytes seed count) ∷ [];
  symbols = code_symbol ∷ map (function_symbol count) (range_with_len 0 count);
  relocs = map call (range_with_len 0 (count - 1));
  flags = 0x05000000;
}
