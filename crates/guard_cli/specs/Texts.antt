-- What is printed. Every line ends with a line feed.
use Rattle.std.specs.Prelude.{ℕ, ◌-◌, max, Bool, true, false, List, [], ◌∷◌, ◌++◌, length, map, codes, fold, replicate}
use Rattle.std.specs.Fmt.{decimal, digits}
use Rattle.std.specs.List.{flat_map}
use Rattle.elf_model.specs.declared.refusals.Refusal.{Refusal}
use Rattle.elf_model.specs.declared.refusals.Refusal.TheVariants.{LiveAtEntry, LiveAtReturn, NoScratch, OutOfReach, Undefined, Duplicate}
use Rattle.elf_model.specs.declared.refusals.Spot.{Spot}
use Rattle.elf_model.specs.Refusals.{number_of, name_of}
use Rattle.thumb_table.specs.declared.faults.FaultKind.{FaultKind}
use Rattle.thumb_table.specs.declared.faults.FaultKind.TheVariants.{Trap, BadAddress, Unaligned, BadStack, BadJump, BadFetch, BadCode}

abbrev pub line : List ℕ → List ℕ
line text = text ++ 10 ∷ []

abbrev pub usage_line : List ℕ
usage_line = line (codes "usage: skipguard harden, link, run, list or make")

abbrev pub no_memory_line : List ℕ
no_memory_line = line (codes "no memory")

abbrev pub read_fault_line : List ℕ → List ℕ
read_fault_line name = line (name ++ codes ": read fault")

abbrev pub write_fault_line : List ℕ → List ℕ
write_fault_line name = line (name ++ codes ": write fault")

abbrev pub yes_or_no : Bool → List ℕ
yes_or_no true = codes "yes"
yes_or_no false = codes "no"

-- what a refusal says beside its place
abbrev pub details : Refusal → List ℕ
details (LiveAtEntry register) = codes " register " ++ decimal register
details (LiveAtReturn register) = codes " register " ++ decimal register
details (NoScratch need have flags) = codes " need " ++ decimal need ++ codes " have " ++ decimal have ++ codes " flags " ++ yes_or_no flags
details (OutOfReach distance) = codes " distance " ++ decimal distance
details (Undefined symbol) = codes " symbol " ++ decimal symbol
details (Duplicate symbol) = codes " symbol " ++ decimal symbol
details other = []

-- the line of a refusal of the input with this name
abbrev pub refused_line : List ℕ → Spot → List ℕ
refused_line name spot = line (
    name ++ codes ": refused " ++ decimal (number_of spot.refusal) ++ codes " " ++ name_of spot.refusal
    ++ codes " section " ++ decimal spot.section ++ codes " offset " ++ decimal spot.offset ++ details spot.refusal)

-- what is said of one hardened object
pub record Tally : Type 0 where
  pub output : List ℕ
  pub functions : ℕ
  pub before : ℕ
  pub after : ℕ
  pub old_bytes : ℕ
  pub new_bytes : ℕ
  pub dropped : ℕ
  pub factor : ℕ

abbrev pub tally_line : Tally → List ℕ
tally_line t = line (
    t.output ++ codes ": " ++ decimal t.functions ++ codes " functions, " ++ decimal t.before ++ codes " -> " ++ decimal t.after
    ++ codes " instructions, " ++ decimal t.old_bytes ++ codes " -> " ++ decimal t.new_bytes ++ codes " bytes, "
    ++ decimal t.dropped ++ codes " dropped, factor " ++ decimal t.factor)

abbrev pub greatest_factor : List Tally → ℕ
greatest_factor tallies = fold max 1 (map (λ t. t.factor) tallies)

-- a line for each output, and the greatest of the factors
abbrev pub report : List Tally → List ℕ
report tallies = flat_map tally_line tallies ++ line (codes "factor " ++ decimal (greatest_factor tallies))

-- what is said of an image that was saved: the bytes of code and of data in it
abbrev pub link_line : ℕ → ℕ → List ℕ
link_line code memory = line (codes "linked " ++ decimal code ++ codes " bytes of code, " ++ decimal memory ++ codes " bytes of data")

-- a word, in eight lower-case hexadecimal digits
abbrev pub word_text : ℕ → List ℕ
word_text n = codes "0x" ++ replicate (8 - length (digits 16 false n)) 48 ++ digits 16 false n

abbrev pub fault_name : FaultKind → List ℕ
fault_name Trap = codes "Trap"
fault_name BadAddress = codes "BadAddress"
fault_name Unaligned = codes "Unaligned"
fault_name BadStack = codes "BadStack"
fault_name BadJump = codes "BadJump"
fault_name BadFetch = codes "BadFetch"
fault_name (BadCode _) = codes "BadCode"

-- what is said of a run: its steps, and r0 at the end, or where it stopped
abbrev pub returned_line : ℕ → ℕ → Bool → List ℕ
returned_line steps r0 ordinary =
    line (codes "returned after " ++ decimal steps ++ codes " steps, r0 " ++ word_text r0 ++ codes ", ordinary " ++ yes_or_no ordinary)

abbrev pub stopped_line : FaultKind → ℕ → ℕ → List ℕ
stopped_line kind pc steps = line (codes "stopped " ++ fault_name kind ++ codes " at " ++ word_text pc ++ codes " after " ++ decimal steps ++ codes " steps")

abbrev pub unfinished_line : ℕ → List ℕ
unfinished_line steps = line (codes "unfinished after " ++ decimal steps ++ codes " steps")
