-- Two states are the same up to an address map, as a test on its lists.
use Rattle.std.specs.Prelude.{◌≡◌, ◌<◌, ◌↔◌, ℕ, ◌+◌, ◌%◌, ◌^◌, ◌==◌, ◌&&◌, ◌||◌, Bool, true, false, List, Option, Some, None, if◌then◌else◌}
use Rattle.std.specs.List.{list_any}
use Rattle.elf_model.specs.declared.objects.MapRow.{MapRow}
use Rattle.mark_word.specs.Words.{Word, Cell, byte_of}
use Rattle.mark_word.specs.declared.cells.Piece.{Piece}
use Rattle.mark_word.specs.declared.marks.Mark.{Mark}
use Rattle.mark_word.specs.declared.marks.Mark.TheVariants.{Plain, Entry, Return, Low}
use Rattle.thumb_table.specs.Images.{even}
use Rattle.thumb_table.specs.Parts.{Image}
use Rattle.thumb_table.specs.States.{State}
use Rattle.sim_charts.specs.Words.{Taking}
use Rattle.sim_charts.specs.Maps.{MappedState}
use Rattle.sim_relation.specs.declared.address_maps.Taken.{Taken}
use Rattle.sim_relation.specs.AddressMaps.{TakesEntry, TakesReturn, SameState}
use Rattle.sim_relation.specs.Taken.{MapParts, TakenTo}

-- what a map takes addresses to
abbrev pub by_map : MapParts → Taking
by_map m = record { entry = TakenTo m.entries; back = TakenTo m.returns }

-- r0 to r11, sp and every byte of memory are the same: only the plain side's marks count.
abbrev pub IsSame : MapParts → State → State → Type 0
IsSame m s t = MappedState (by_map m) 4 s t

-- What of a number is looked at: all of it or its low half, and of that a byte or all.
abbrev pub half_of : Bool → ℕ → ℕ
half_of low n = if low then n % 2 ^ 16 else n

abbrev pub byte_in : Option ℕ → ℕ → ℕ
byte_in None n = n
byte_in (Some k) n = byte_of k n

abbrev pub seen : Bool → Option ℕ → ℕ → ℕ
seen low index n = byte_in index (half_of low n)

-- a byte of a word
abbrev pub IsIndex : Option ℕ → Type 0
IsIndex index = (k : ℕ) → index ≡ Some k → k < 4

-- an address is taken to one of which this is seen
abbrev pub shows : Bool → Option ℕ → ℕ → ℕ → Taken → Bool
shows low index a shown t = (t.from == even a) && (seen low index (even t.to + a % 2) == shown)

abbrev pub is_shown : List Taken → Bool → Option ℕ → ℕ → ℕ → Bool
is_shown list low index a shown = ((a == 0x7FFFFFFF) && (seen low index 0x7FFFFFFF == shown)) || list_any (shows low index a shown) list

abbrev pub is_same_number : MapParts → Option ℕ → Mark → ℕ → ℕ → Bool
is_same_number m index Plain b h = b == h
is_same_number m index (Entry a) b h = is_shown m.entries false index a h
is_same_number m index (Return a) b h = is_shown m.returns false index a h
is_same_number m index (Low a) b h = is_shown m.entries true index a h

abbrev pub is_same_word : MapParts → Word → Word → Bool
is_same_word m w v = is_same_number m None w.mark w.bits v.bits

abbrev pub is_same_byte : MapParts → Option Piece → ℕ → ℕ → Bool
is_same_byte m None b h = b == h
is_same_byte m (Some p) b h = is_same_number m (Some p.index) p.mark b h

abbrev pub is_same_cell : MapParts → Cell → Cell → Bool
is_same_cell m c d = is_same_byte m c.piece c.byte d.byte

-- By a map that takes what the rows of maps take, this is the relation of the theorem.
abbrev pub SameByRows : Type 0
SameByRows =
    (plain hard : Image) (maps : List (List MapRow)) (m : MapParts) → ((a b : ℕ) → TakenTo m.entries a b ↔ TakesEntry plain hard maps a b) → ((a b : ℕ) → TakenTo m.returns a b ↔ TakesReturn plain hard maps a b)
    → (s t : State) → IsSame m s t ↔ SameState plain hard maps 4 s t
