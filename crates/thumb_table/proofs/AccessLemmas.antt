-- What loads and stores change.
use Rattle.std.proofs.Common.{◌≡◌, ℕ, ◌++◌, true, false, [], ◌∷◌, Option, Err, refl, append-nil}
use Rattle.mark_word.specs.Words.{Word}
use Rattle.thumb_instr.specs.declared.operations.AccessOp.{AccessOp}
use Rattle.thumb_instr.specs.declared.operations.AccessOp.TheVariants.{Ldr, Ldrb, Ldrh, Ldrsb, Ldrsh, Str, Strb, Strh}
use Rattle.thumb_instr.specs.declared.places.Place.{Place}
use Rattle.thumb_instr.specs.declared.places.Place.TheVariants.{Offset, Pre, Post, Index}
use Rattle.thumb_instr.specs.declared.instructions.Instr.TheVariants.{Access}
use Rattle.thumb_instr.specs.Fields.{AccessFields}
use Rattle.thumb_table.specs.declared.cores.Core.{Core as Registers}
use Rattle.thumb_table.specs.declared.faults.FaultKind.TheVariants.{BadAddress}
use Rattle.thumb_table.specs.Parts.{Memory}
use Rattle.thumb_table.specs.States.{Core, Site, read, unchanged, upright}
use Rattle.thumb_table.specs.Effects.{access_address, base_write, size_of, lies_in, accessed, writing, change}
use Rattle.thumb_table.specs.CoreStates.{core_of, alone}
use Rattle.thumb_table.specs.Views.{base_list, is_load, loaded_word, stored_cells}

pub address_alone : (n : ℕ) (place : Place) (s : Registers) (m : Memory) → access_address n place (core_of s m) ≡ access_address n place (alone s)
address_alone n (Offset up imm) s m = refl
address_alone n (Pre up imm) s m = refl
address_alone n (Post up imm) s m = refl
address_alone n (Index r shift) s m = refl

pub base_alone : (n : ℕ) (place : Place) (s : Registers) (m : Memory) → base_write n place (core_of s m) ≡ base_write n place (alone s)
base_alone n (Offset up imm) s m = refl
base_alone n (Pre up imm) s m = refl
base_alone n (Post up imm) s m = refl
base_alone n (Index r shift) s m = refl

pub accessed_load : (op : AccessOp) (t a : ℕ) (x : Core) → is_load op ≡ true → accessed op t a x ≡ writing ((t, loaded_word op x.memory a) ∷ [])
accessed_load Ldr t a x h = refl
accessed_load Ldrb t a x h = refl
accessed_load Ldrh t a x h = refl
accessed_load Ldrsb t a x h = refl
accessed_load Ldrsh t a x h = refl
accessed_load Str t a x h = cc
accessed_load Strb t a x h = cc
accessed_load Strh t a x h = cc

pub accessed_store : (op : AccessOp) (t a : ℕ) (x : Core) → is_load op ≡ false → accessed op t a x ≡ record unchanged { cells = stored_cells op (read x t) a }
accessed_store Ldr t a x h = cc
accessed_store Ldrb t a x h = cc
accessed_store Ldrh t a x h = cc
accessed_store Ldrsb t a x h = cc
accessed_store Ldrsh t a x h = cc
accessed_store Str t a x h = refl
accessed_store Strb t a x h = refl
accessed_store Strh t a x h = refl

-- an access whose fields, address and base the code has found
pub record Found (i : AccessFields) (s : Registers) (m : Memory) (op : AccessOp) (n a : ℕ) (base : Option ℕ) : Type 0 where
  pub op_is : op ≡ i.op
  pub n_is : n ≡ i.n
  pub address_is : a ≡ access_address i.n i.place (alone s)
  pub base_is : base_list i.n base ≡ base_write i.n i.place (alone s)
  pub lies : lies_in m a (size_of op) ≡ true

pub access_beyond : (i : AccessFields) (site : Site) (s : Registers) (m : Memory) (op : AccessOp) (a : ℕ) → op ≡ i.op → a ≡ access_address i.n i.place (alone s) → lies_in m a (size_of op) ≡ false → change (Access i) site (core_of s m) ≡ Err BadAddress
unfolding change
access_beyond i site s m op a same e out = rw (address_alone i.n i.place s m, ← e, ← same, out) refl

pub access_load : (i : AccessFields) (site : Site) (s : Registers) (m : Memory) (op : AccessOp) (n t a : ℕ) (base : Option ℕ) (w : Word) → Found i s m op n a base → t ≡ i.t → is_load op ≡ true → w ≡ loaded_word op m a
    → change (Access i) site (core_of s m) ≡ upright (writing (base_list n base ++ ((t, w) ∷ [])))
unfolding change
access_load i site s m op n t a base w f et load e = rw (f.n_is, et, address_alone i.n i.place s m, ← f.address_is, ← f.op_is, f.lies, base_alone i.n i.place s m, ← f.base_is, accessed_load op i.t a (core_of s m) load, ← e) refl

pub access_store : (i : AccessFields) (site : Site) (s : Registers) (m : Memory) (op : AccessOp) (n a : ℕ) (base : Option ℕ) (w : Word) → Found i s m op n a base → is_load op ≡ false → w ≡ read (alone s) i.t
    → change (Access i) site (core_of s m) ≡ upright (record unchanged { regs = base_list n base; cells = stored_cells op w a })
unfolding change
access_store i site s m op n a base w f load e = rw (f.n_is, address_alone i.n i.place s m, ← f.address_is, ← f.op_is, f.lies, base_alone i.n i.place s m, ← f.base_is, accessed_store op i.t a (core_of s m) load, ← e, append-nil (base_list i.n base)) refl
