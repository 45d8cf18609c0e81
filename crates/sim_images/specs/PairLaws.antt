-- Laws on the images of two lists of objects that answer each other.
use Rattle.std.specs.Prelude.{◌≡◌, ◌<◌, ◌≤◌, ℕ, ◌+◌, true, false, List, length, get_or, Option, Some, None, Ok, slice_get}
use Rattle.elf_model.specs.declared.objects.Symbol.{Symbol}
use Rattle.elf_model.specs.Objects.{ObjectParts, is_code}
use Rattle.mark_word.specs.declared.cells.Piece.{Piece}
use Rattle.mark_word.specs.declared.marks.Mark.{Mark}
use Rattle.mark_word.specs.declared.marks.Mark.TheVariants as mark
use Rattle.mark_word.specs.Words.{bare, byte_of}
use Rattle.thumb_table.specs.declared.placements.Placement.{Placement}
use Rattle.thumb_table.specs.Parts.{Image}
use Rattle.thumb_instr.specs.declared.instructions.Instr.{Instr}
use Rattle.reloc_places.specs.Starts.{bytes_of, IsCodeStart, instr_at}
use Rattle.reloc_places.specs.Relocations.{is_jump, reloc_at}
use Rattle.thumb_table.specs.Layouts.{Placed, IsPlacement, all_placed, code_bytes_of}
use Rattle.thumb_table.specs.Names.{Defined, meant}
use Rattle.thumb_table.specs.Links.{Link, IsLink, leads_to_code, full, target_of as linked_target}
use Rattle.thumb_table.specs.Images.{CanLink, IsImage, entry_of}
use Rattle.sim_images.specs.ImageLaws.{AreObjects, Here}
use Rattle.sim_images.specs.CodeLaws.{Fetches, IsLinkedInstr, IsSequence, Has}
use Rattle.sim_images.specs.Counterparts.{Places, IsCounterpart, Answers, SameSense, AreAnswers, IsAccepted, DataAnswers, RelocsAnswer}

-- A point's address in the plain image, and its place in the hardened one.
pub record Moves (ins outs : List ObjectParts) (at : Placement) (moved : ℕ → Places) (a b : ℕ) : Type 0 where
  pub file : ℕ
  pub section : ℕ
  pub old : ℕ
  pub new : ℕ
  pub object : ObjectParts
  pub twin : ObjectParts
  pub part : Placed
  pub place : Placed
  pub was : Here ins at file object section part
  pub becomes : Here outs at file twin section place
  pub row : moved file section old ≡ Some new
  pub from : a ≡ part.start + old
  pub to : b ≡ place.start + new

-- Data stands at the same addresses.
abbrev pub DataStays : Type 0
DataStays =
    (ins outs : List ObjectParts) (at : Placement) (moved : ℕ → Places) → AreAnswers ins outs moved
    → (i j : ℕ) (o h : ObjectParts) (p q : Placed) → Here ins at i o j p → Here outs at i h j q → is_code p.section ≡ false → q.start ≡ p.start

-- two symbols, counterparts in objects of one number
pub record MeantAlike (ins outs : List ObjectParts) (moved : ℕ → Places) (d e : Defined) : Type 0 where
  pub object : ObjectParts
  pub twin : ObjectParts
  pub there : slice_get ins d.object ≡ Some object
  pub here : slice_get outs e.object ≡ Some twin
  pub file : e.object ≡ d.object
  pub same : IsCounterpart object twin (moved d.object) d.index e.index

-- A symbol and its counterpart mean counterparts.
abbrev pub NamesMeet : Type 0
NamesMeet =
    (ins outs : List ObjectParts) (moved : ℕ → Places) → AreObjects ins → AreObjects outs → AreAnswers ins outs moved
    → (i k m : ℕ) (o h : ObjectParts) (s t : Symbol) (d : Defined) → slice_get ins i ≡ Some o → slice_get outs i ≡ Some h → IsCounterpart o h (moved i) k m
    → slice_get o.symbols k ≡ Some s → slice_get h.symbols m ≡ Some t → meant ins i k s ≡ Some d
    → (e : Defined) × (meant outs i m t ≡ Some e) × MeantAlike ins outs moved d e

-- What two links come to: one number outside of code; in code an address of a point and its place; and so for branches.
pub data SameValue (ins outs : List ObjectParts) (at : Placement) (moved : ℕ → Places) (l m : Link) : Type 0 where
  number : is_jump l.reloc.kind ≡ false → leads_to_code (all_placed ins at) l ≡ false → leads_to_code (all_placed outs at) m ≡ false
      → full (all_placed outs at) m ≡ full (all_placed ins at) l → SameValue ins outs at moved l m
  address : (a b : ℕ) → is_jump l.reloc.kind ≡ false → leads_to_code (all_placed ins at) l ≡ true → leads_to_code (all_placed outs at) m ≡ true
      → full (all_placed ins at) l ≡ a + 1 → full (all_placed outs at) m ≡ b + 1 → Moves ins outs at moved a b → SameValue ins outs at moved l m
  branch : is_jump l.reloc.kind ≡ true → Moves ins outs at moved (linked_target (all_placed ins at) l) (linked_target (all_placed outs at) m) → SameValue ins outs at moved l m

-- Links that answer each other come to that.
abbrev pub ValuesMeet : Type 0
ValuesMeet =
    (ins outs : List ObjectParts) (at : Placement) (moved : ℕ → Places) (image hard : Image) → AreObjects ins → AreObjects outs → AreAnswers ins outs moved
    → ((i : ℕ) (o : ObjectParts) → slice_get ins i ≡ Some o → IsAccepted o) → IsImage ins at image → IsImage outs at hard
    → (l m : Link) → IsLink ins at l → IsLink outs at m → m.file ≡ l.file → SameSense l.reloc m.reloc → Answers l.object m.object (moved l.file) l.reloc m.reloc
    → SameValue ins outs at moved l m

-- A byte of data and another are the same, but that a piece of a point's address is one of its place.
abbrev pub SamePiece : List ObjectParts → List ObjectParts → Placement → (ℕ → Places) → Option Piece → ℕ → ℕ → Type 0
SamePiece ins outs at moved None b h = h ≡ b
SamePiece ins outs at moved (Some p) b h = (a : ℕ) × (c : ℕ) × (p.mark ≡ mark.Entry (a + 1)) × Moves ins outs at moved a c × (h ≡ byte_of p.index (c + 1))

-- Bytes of data are the same up to addresses of code.
abbrev pub DataMeets : Type 0
DataMeets =
    (ins outs : List ObjectParts) (at : Placement) (moved : ℕ → Places) (image hard : Image) → AreObjects ins → AreObjects outs → AreAnswers ins outs moved
    → ((i : ℕ) (o : ObjectParts) → slice_get ins i ≡ Some o → IsAccepted o)
    → ((i : ℕ) (o h : ObjectParts) → slice_get ins i ≡ Some o → slice_get outs i ≡ Some h → DataAnswers o h (moved i)) → IsImage ins at image → IsImage outs at hard
    → (length hard.memory.cells ≡ length image.memory.cells)
    × ((k : ℕ) → k < length image.memory.cells → SamePiece ins outs at moved (get_or image.memory.cells k (bare 0)).piece (get_or image.memory.cells k (bare 0)).byte (get_or hard.memory.cells k (bare 0)).byte)

-- A name that can be called is called at its point's place.
abbrev pub EntriesMeet : Type 0
EntriesMeet =
    (ins outs : List ObjectParts) (at : Placement) (moved : ℕ → Places) (image hard : Image) → AreObjects ins → AreObjects outs → AreAnswers ins outs moved
    → IsImage ins at image → IsImage outs at hard → (name : List ℕ) (a : ℕ) → entry_of image.entries name ≡ Some (a + 1)
    → (b : ℕ) × (entry_of hard.entries name ≡ Some (b + 1)) × Moves ins outs at moved a b

-- No other name can be called.
abbrev pub EntriesBack : Type 0
EntriesBack =
    (ins outs : List ObjectParts) (at : Placement) (moved : ℕ → Places) (image hard : Image) → AreObjects ins → AreObjects outs → AreAnswers ins outs moved
    → IsImage ins at image → IsImage outs at hard → (name : List ℕ) (b : ℕ) → entry_of hard.entries name ≡ Some (b + 1)
    → (a : ℕ) × (entry_of image.entries name ≡ Some (a + 1)) × Moves ins outs at moved a b

-- Where the plain objects can be linked, so can the others, or their code is longer than the room.
abbrev pub HaveImage : Type 0
HaveImage =
    (ins outs : List ObjectParts) (at : Placement) (moved : ℕ → Places) → AreObjects ins → AreObjects outs → AreAnswers ins outs moved
    → ((i : ℕ) (o : ObjectParts) → slice_get ins i ≡ Some o → IsAccepted o)
    → ((i : ℕ) (o h : ObjectParts) → slice_get ins i ≡ Some o → slice_get outs i ≡ Some h → RelocsAnswer o h (moved i))
    → IsPlacement at → CanLink ins at → length (code_bytes_of outs at) ≤ at.room → CanLink outs at

-- A point and its unit: the plain image has the point's instruction at its address, the hardened one the unit at the point's place.
pub record PointMeets (ins outs : List ObjectParts) (at : Placement) (image hard : Image) (i it : ℕ) (instr : Instr) (reloc : Option ℕ) (steps : List (Instr × Option ℕ)) (a b end : ℕ) : Type 0 where
  pub linked : Instr
  pub mark : Mark
  pub width : ℕ
  pub is : IsLinkedInstr ins at i instr reloc linked mark
  pub point : Fetches image.code a it linked width mark
  pub unit : Has outs at i hard.code b steps end

-- So it is of each point, whatever its unit is.
abbrev pub PointsMeet : Type 0
PointsMeet =
    (ins outs : List ObjectParts) (at : Placement) (moved : ℕ → Places) (image hard : Image) → AreObjects ins → AreObjects outs → AreAnswers ins outs moved
    → IsImage ins at image → IsImage outs at hard
    → (i j : ℕ) (o h : ObjectParts) (p q : Placed) → Here ins at i o j p → Here outs at i h j q
    → (x y z end it : ℕ) (instr : Instr) (steps : List (Instr × Option ℕ)) → IsCodeStart o j (bytes_of o j) x end → instr_at (bytes_of o j) end x it ≡ Ok instr
    → moved i j x ≡ Some y → IsSequence h j y steps z
    → PointMeets ins outs at image hard i it instr (reloc_at o j x) steps (p.start + x) (q.start + y) (q.start + z)
