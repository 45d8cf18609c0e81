-- Class Twice: an instruction that doesn't write what it reads.
use Rattle.std.proofs.Common.{◌≡◌, ◌≢◌, ℕ, Bool, true, false, [], inl, None, Ok, refl, sym, ap, ◌∙◌}
use Rattle.std.specs.Prelude.{All}
use Rattle.thumb_instr.specs.declared.instructions.Instr.{Instr}
use Rattle.thumb_instr.specs.Sets.{reads_of, writes_of}
use Rattle.thumb_table.specs.States.{Core, Change, Falls, applied, or_old, store_all}
use Rattle.thumb_table.specs.Steps.{goes_on}
use Rattle.seq_core.specs.Does.{SameBut, Effect}
use Rattle.seq_core.specs.Meanings.{Ends, meant}
use Rattle.seq_core.specs.Reading.{SameReads, IsWithin, stores}
use Rattle.seq_core.specs.Apart.{goes_on_always, IsApart}
use Rattle.seq_core.specs.Sequences.{Settles}
use Rattle.seq_core.specs.Groups.{nothing}
use Rattle.seq_core.specs.Twice.{TwiceCarries}
use Rattle.seq_core.proofs.Again.{again, store_length, clear_after, read_other}
use Rattle.seq_core.proofs.Meaning.{meant_depends, meant_within, meant_quiet, store_unseen}

-- a register that is read is not among those that are written
pub unwritten : (i : Instr) (h : Change) → IsApart i → IsWithin i h → (k : ℕ) → reads_of i k ≡ true → All (λ w. k ≢ w.0) h.regs
unwritten i h a w k r j d lt e = let t = w.regs j d lt in let f = a.regs k r in let g = ap (λ m. writes_of i m) e in absurd cc

-- what is read is the same afterwards, but for memory
pub reads_after : (i : Instr) (x : Core) (h : Change) → IsApart i → IsWithin i h → x.memory ≡ (applied h x).memory → SameReads i x (applied h x)
reads_after i x h a w m = record {
  regs = λ r e. sym (read_other h x r (unwritten i h a w r e));
  flags = record {
    n = λ e. sym (ap (λ o. or_old o x.n) (w.n (a.flags 16 e)));
    z = λ e. sym (ap (λ o. or_old o x.z) (w.z (a.flags 17 e)));
    c = λ e. sym (ap (λ o. or_old o x.c) (w.c (a.flags 18 e)));
    v = λ e. sym (ap (λ o. or_old o x.v) (w.v (a.flags 19 e)));
  };
  memory = m;
}

pub memory_kept : (h : Change) (x : Core) → h.cells ≡ [] → x.memory ≡ (applied h x).memory
memory_kept h x e = sym (ap (λ l. record x.memory { cells = store_all x.memory.base l x.memory.cells }) e)

-- an effect whose change is the same when it is done again
pub settles : (e : Effect) (x : Core) (h : Change) → x.it ≡ 0 → h.exit ≡ Falls → h.it ≡ None → e x ≡ Ok h → e (applied h x) ≡ Ok h → Settles e x (applied h x)
settles e x h it f i m n = record {
  first = h;
  makes = m;
  falls = f;
  comes = refl;
  second = h;
  again = n;
  falls_again = f;
  stays = again h x i it;
  clear = clear_after h x i it;
}

-- a store sees the same of what it stored into
store_again : (i : Instr) (e : Ends) (x : Core) (h : Change) → goes_on_always i ≡ true → stores i ≡ true → IsApart i → IsWithin i h → meant i e (applied h x) ≡ meant i e x
store_again i e x h g s a w =
    let y : Core = applied h x in
    let r = reads_after i x (record h { cells = [] }) a (record { regs = w.regs; n = w.n; z = w.z; c = w.c; v = w.v }) refl in
    let k : SameReads i (record x { memory = y.memory }) y = record { regs = r.regs; flags = record { n = r.flags.n; z = r.flags.z; c = r.flags.c; v = r.flags.v }; memory = refl } in
    sym (meant_depends i e (record x { memory = y.memory }) y g k) ∙ store_unseen i e x y.memory g s refl (store_length x.memory.base h.cells x.memory.cells)

-- CLASS TWICE, but for what jumps: done again, the instruction changes nothing.
pub twice_settles : (i : Instr) (e : Ends) (x : Core) (h : Change) → goes_on_always i ≡ true → IsApart i → x.it ≡ 0 → meant i e x ≡ Ok h → Settles (meant i e) x (applied h x)
twice_settles i e x h g a it m =
    let q = meant_quiet i e x h g m in
    let w = meant_within i e x h g m in
    elim (stores i) as (λ b. stores i ≡ b → Settles (meant i e) x (applied h x)) [
      | true ↦ λ s. settles (meant i e) x h it q.falls q.it m (store_again i e x h g s a w ∙ m)
      | false ↦ λ s. settles (meant i e) x h it q.falls q.it m (sym (meant_depends i e x (applied h x) g (reads_after i x h a w (memory_kept h x (q.cells s)))) ∙ m)
    ] refl

pub same_self : (loses : ℕ → Bool) (z : Core) → z.it ≡ 0 → SameBut loses z z
same_self loses z e = record { count = refl; members = λ k l. record { word = λ b. refl; n = λ q. refl; z = λ q. refl; c = λ q. refl; v = λ q. refl }; memory = refl; clear = e }

pub twice_is_done : TwiceCarries
twice_is_done i e end g a = record {
  acts = λ y h b t m.
      let s = twice_settles i e y h g a b.clear m in
      (applied h y, record { out = Falls; chain = inl (applied h y, s, (refl, refl)); there = ap (goes_on end) (sym (meant_quiet i e y h g m).falls) }, same_self nothing (applied h y) s.clear);
  rests = λ y b t. absurd cc;
  halts = λ y b t m. inl m;
}
