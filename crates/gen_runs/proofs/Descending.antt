-- From the start of a function to its return, by how many functions are left behind it.
use Rattle.std.proofs.Common.{◌≡◌, ◌≢◌, ℕ, zero, suc, ◌+◌, ◌-◌, ◌*◌, ◌%◌, ◌<◌, ◌≤◌, List, length, refl, subst, arith}
use Rattle.mark_word.specs.Words.{Word, Cell}
use Rattle.thumb_table.specs.Parts.{CodeBytes, Image}
use Rattle.thumb_table.specs.States.{at}
use Rattle.thumb_table.specs.Schedules.{exit}
use Rattle.gen_flow.specs.GeneratedCode.{IsCount}
use Rattle.gen_image.specs.GeneratedImages.{IsGeneratedImage}
use Rattle.gen_runs.proofs.Walking.{Walk, one, join}
use Rattle.gen_runs.proofs.Standing.{Numbers, core}
use Rattle.gen_runs.proofs.Storing.{Same, same_through}
use Rattle.gen_runs.proofs.Framing.{Room, IsLink, pushed, pushed_count, pushed_same, pushed_framed, framed_kept}
use Rattle.gen_runs.proofs.Calling.{link_of}
use Rattle.gen_runs.proofs.Placed.{drawn_small, push_step, work_step, call_step, back_stands, last_stands, pop_step, behind_call}

-- A function that is begun at an address returns after n steps, with the stack above sp as it was.
pub record Ends (code : CodeBytes) (n a : ℕ) (w : Numbers) (sp : ℕ) (lr : Word) (cells : List Cell) : Type 0 where
  pub numbers : Numbers
  pub link : Word
  pub stack : List Cell
  pub count : length stack ≡ length cells
  pub same : Same sp cells stack
  pub walk : Walk code n (at a (core w sp lr cells)) (at (lr.bits - 1) (core numbers sp link stack))

-- a stack that has room for the frames of so many functions
pub record Fits (functions sp : ℕ) (cells : List Cell) : Type 0 where
  pub aligned : sp % 4 ≡ 0
  pub enough : 557056 + 8 * functions ≤ sp
  pub high : sp ≤ 557056 + 65536
  pub count : length cells ≡ 65536

room_of : (left sp : ℕ) (cells : List Cell) → Fits (left + 1) sp cells → Room (sp - 8) sp cells
room_of left sp cells fits =
    let aligned = fits.aligned in
    let enough = fits.enough in
    record { below = omega arith; aligned = omega arith; low = omega arith; high = fits.high; count = fits.count }

module _ (seed count : ℕ) (image : Image) (few : IsCount count) (known : IsGeneratedImage seed count image) where
  abbrev code : CodeBytes
  code = image.code

  -- the frame and the three drawn instructions
  front : (k a : ℕ) (w : Numbers) (b sp : ℕ) (lr : Word) (cells : List Cell) → k < count → a ≡ 0x8000 + 14 * k → Room b sp cells
      → (v : Numbers) × Walk code 4 (at a (core w sp lr cells)) (at (a + 8) (core v b lr (pushed lr b cells)))
  front k a w b sp lr cells lt e room =
      let stack : List Cell = pushed lr b cells in
      let s0 = push_step seed count image few known k a w b sp lr cells lt e room in
      let s1 = work_step seed count image few known k 0 (a + 2) (a + 4) w b lr stack lt (omega arith) (omega arith) (omega arith) (drawn_small _ 0) in
      let s2 = work_step seed count image few known k 1 (a + 4) (a + 6) s1.0 b lr stack lt (omega arith) (omega arith) (omega arith) (drawn_small _ 1) in
      let s3 = work_step seed count image few known k 2 (a + 6) (a + 8) s2.0 b lr stack lt (omega arith) (omega arith) (omega arith) (drawn_small _ 2) in
      (s3.0, (at (a + 2) (core w b lr stack), s0, (at (a + 4) (core s1.0 b lr stack), s1.1, (at (a + 6) (core s2.0 b lr stack), s2.1, (at (a + 8) (core s3.0 b lr stack), s3.1, refl)))))

  pub descends : (left k a : ℕ) (w : Numbers) (sp : ℕ) (lr : Word) (cells : List Cell) → k + left + 1 ≡ count → a ≡ 0x8000 + 14 * k → Fits (left + 1) sp cells → IsLink code lr
      → Ends code (6 * left + 5) a w sp lr cells
  descends zero k a w sp lr cells all e fits ok =
      let high = few.high in
      let b : ℕ = sp - 8 in
      let room = room_of 0 sp cells fits in
      let stack : List Cell = pushed lr b cells in
      let f = front k a w b sp lr cells (omega arith) e room in
      let count_same = pushed_count lr b cells in
      let full = fits.count in
      let inner : Room b sp stack = record { below = room.below; aligned = room.aligned; low = room.low; high = room.high; count = omega arith } in
      let away : a + 8 ≢ exit = λ same. absurd (omega arith) in
      let p = pop_step seed count image few known (a + 8) f.0 b sp lr lr stack away (last_stands seed count image few known k (a + 8) (omega arith) (omega arith)) inner ok (pushed_framed lr b sp cells room) in
      record {
        numbers = f.0;
        link = lr;
        stack = stack;
        count = count_same;
        same = pushed_same lr b sp cells room;
        walk = join code 4 1 5 (at a (core w sp lr cells)) (at (a + 8) (core f.0 b lr stack)) (at (lr.bits - 1) (core f.0 sp lr stack)) refl f.1 (one code (at (a + 8) (core f.0 b lr stack)) (at (lr.bits - 1) (core f.0 sp lr stack)) p);
      }
  descends (suc left) k a w sp lr cells all e fits ok =
      let high = few.high in
      let b : ℕ = sp - 8 in
      let room = room_of (suc left) sp cells fits in
      let stack : List Cell = pushed lr b cells in
      let f = front k a w b sp lr cells (omega arith) e room in
      let count_same = pushed_count lr b cells in
      let full = fits.count in
      let aligned = room.aligned in
      let enough = fits.enough in
      let top = fits.high in
      let c = call_step seed count image few known k (a + 8) (a + 14) (a + 13) f.0 b lr stack (omega arith) (omega arith) (omega arith) (omega arith) in
      let link : IsLink code (link_of (a + 13)) =
      subst (λ n. IsLink code (link_of n)) (let s : a + 12 + 1 ≡ a + 13 = omega arith in s) (behind_call seed count image few known k (a + 12) (omega arith) (omega arith)) in
      let deeper : Fits (left + 1) b stack = record { aligned = aligned; enough = omega arith; high = omega arith; count = omega arith } in
      let i = descends left (k + 1) (a + 14) f.0 b (link_of (a + 13)) stack (omega arith) (omega arith) deeper link in
      let inner_count = i.count in
      let inner : Room b sp i.stack = record { below = room.below; aligned = room.aligned; low = room.low; high = room.high; count = omega arith } in
      let away : a + 12 ≢ exit = λ same. absurd (omega arith) in
      let framed = framed_kept b lr stack i.stack i.same (pushed_framed lr b sp cells room) in
      let p = pop_step seed count image few known (a + 12) i.numbers b sp lr i.link i.stack away (back_stands seed count image few known k (a + 12) (omega arith) (omega arith)) inner ok framed in
      let called = at (a + 14) (core f.0 b (link_of (a + 13)) stack) in
      let returned = at (a + 12) (core i.numbers b i.link i.stack) in
      let ended = at (lr.bits - 1) (core i.numbers sp i.link i.stack) in
      let middle : Walk code (6 * left + 5) called returned =
      subst (λ n. Walk code (6 * left + 5) called (at n (core i.numbers b i.link i.stack))) (let s : a + 13 - 1 ≡ a + 12 = omega arith in s) i.walk in
      let below = room.below in
      record {
        numbers = i.numbers;
        link = i.link;
        stack = i.stack;
        count = omega arith;
        same = same_through sp b cells stack i.stack (omega arith) (pushed_same lr b sp cells room) i.same;
        walk =
            join code 4 (6 * left + 7) (6 * suc left + 5) (at a (core w sp lr cells)) (at (a + 8) (core f.0 b lr stack)) ended (omega arith) f.1
            (join code 1 (6 * left + 6) (6 * left + 7) (at (a + 8) (core f.0 b lr stack)) called ended (omega arith) (one code (at (a + 8) (core f.0 b lr stack)) called c)
            (join code (6 * left + 5) 1 (6 * left + 6) called returned ended (omega arith) middle (one code returned ended p)));
      }
