-- The numbers of a link whose meant symbol is in code: its part's start, and a number of the object's own.
use Rattle.std.specs.Prelude.{◌≡◌, ◌<◌, ◌≤◌, ℕ, ◌+◌, ◌%◌, ◌^◌, ◌==◌, ◌&&◌, Bool, true, false, cond, List, Some, if◌then◌else◌, refl}
use Rattle.std.proofs.Common.{arith, ap, ◌∙◌}
use Rattle.elf_model.specs.declared.objects.Home.{Home}
use Rattle.elf_model.specs.declared.objects.Home.TheVariants as homes
use Rattle.elf_model.specs.Constants.{func}
use Rattle.elf_model.specs.Objects.{is_code, even}
use Rattle.thumb_table.specs.Layouts.{Placed, part_of, start_of, home_start}
use Rattle.thumb_table.specs.Names.{Defined, is_in_code, is_function, address_of, stands}
use Rattle.thumb_table.specs.Links.{Link, addend_of, sum_of, full, target_of}

-- where a symbol of code stands in its section, and what an addend makes of it there
abbrev pub own_place : Defined → ℕ
own_place d = if d.symbol.kind == func then even d.symbol.value else d.symbol.value

abbrev pub own_value : Defined → ℕ → ℕ
own_value d a = if d.symbol.kind == func then even ((own_place d + a) % 2 ^ 32) + 1 else (own_place d + a) % 2 ^ 32

abbrev pub own_target : Defined → ℕ → ℕ
own_target d a = (own_place d + a + 4) % 2 ^ 32

-- a symbol is in a part of code
pub record InCode (parts : List Placed) (d : Defined) (j : ℕ) (p : Placed) : Type 0 where
  pub home : d.symbol.home ≡ homes.Section j
  pub part : part_of parts d.object j ≡ Some p
  pub code : is_code p.section ≡ true
  pub fours : p.start % 4 ≡ 0
  pub low : p.start + p.section.size ≤ 0x7FFFF000

and_true : (b : Bool) → (b && true) ≡ b
and_true true = refl
and_true false = refl

pub in_code : (parts : List Placed) (i j : ℕ) (h : Home) (p : Placed) → h ≡ homes.Section j → part_of parts i j ≡ Some p → is_code p.section ≡ true → is_in_code parts i h ≡ true
in_code parts i j h p e f c = ap (λ (z : Home). is_in_code parts i z) e ∙ rw f c

pub starts : (parts : List Placed) (i j : ℕ) (h : Home) (p : Placed) → h ≡ homes.Section j → part_of parts i j ≡ Some p → home_start parts i h ≡ p.start
starts parts i j h p e f = ap (λ (z : Home). home_start parts i z) e ∙ ap (λ (z : _). start_of z) f

pub function_is : (parts : List Placed) (d : Defined) (j : ℕ) (p : Placed) → InCode parts d j p → is_function parts d ≡ (d.symbol.kind == func)
function_is parts d j p h = ap (λ (b : Bool). (d.symbol.kind == func) && b) (in_code parts d.object j d.symbol.home p h.home h.part h.code) ∙ and_true (d.symbol.kind == func)

even_add : (s v : ℕ) → s % 4 ≡ 0 → even (s + v) ≡ s + even v
even_add s v h = omega arith

pub stand_is : (parts : List Placed) (d : Defined) (j : ℕ) (p : Placed) → InCode parts d j p → stands parts d ≡ p.start + own_place d
stand_is parts d j p h =
    let start : home_start parts d.object d.symbol.home ≡ p.start = starts parts d.object j d.symbol.home p h.home h.part in
    let address : address_of parts d ≡ p.start + d.symbol.value = ap (λ (n : ℕ). n + d.symbol.value) start in
    ap (λ (b : Bool). cond b (even (address_of parts d)) (address_of parts d)) (function_is parts d j p h)
    ∙ go (d.symbol.kind == func) (address_of parts d) address
  where
    go : (b : Bool) (a : ℕ) → a ≡ p.start + d.symbol.value → cond b (even a) a ≡ p.start + cond b (even d.symbol.value) d.symbol.value
    go true a e = ap (λ (n : ℕ). even n) e ∙ even_add p.start d.symbol.value h.fours
    go false a e = e

of_function : (s pl a size : ℕ) → s % 4 ≡ 0 → s + size ≤ 0x7FFFF000 → even (even ((pl + a) % 2 ^ 32) + 1) < size → even ((s + pl + a) % 2 ^ 32) + 1 ≡ s + (even ((pl + a) % 2 ^ 32) + 1)
of_function s pl a size f low lt = omega arith

of_other : (s pl a size : ℕ) → s % 4 ≡ 0 → s + size ≤ 0x7FFFF000 → even ((pl + a) % 2 ^ 32) < size → (s + pl + a) % 2 ^ 32 ≡ s + (pl + a) % 2 ^ 32
of_other s pl a size f low lt = omega arith

of_branch : (s pl a size : ℕ) → s + size ≤ 0x7FFFF000 → (pl + a + 4) % 2 ^ 32 < size → ((s + pl + a) % 2 ^ 32 + 4) % 2 ^ 32 ≡ s + (pl + a + 4) % 2 ^ 32
of_branch s pl a size low lt = omega arith

pub full_is : (parts : List Placed) (l : Link) (j : ℕ) (p : Placed) → InCode parts l.meant j p → even (own_value l.meant (addend_of l)) < p.section.size → full parts l ≡ p.start + own_value l.meant (addend_of l)
full_is parts l j p h lt =
    let e : stands parts l.meant ≡ p.start + own_place l.meant = stand_is parts l.meant j p h in
    let f : sum_of parts l ≡ (p.start + own_place l.meant + addend_of l) % 2 ^ 32 = ap (λ (n : ℕ). (n + addend_of l) % 2 ^ 32) e in
    ap (λ (b : Bool). cond b (even (sum_of parts l) + 1) (sum_of parts l)) (function_is parts l.meant j p h)
    ∙ (ap (λ (n : ℕ). cond (l.meant.symbol.kind == func) (even n + 1) n) f ∙ go (l.meant.symbol.kind == func) (own_place l.meant) (addend_of l) lt)
  where
    go : (b : Bool) (pl a : ℕ) → even (cond b (even ((pl + a) % 2 ^ 32) + 1) ((pl + a) % 2 ^ 32)) < p.section.size
        → cond b (even ((p.start + pl + a) % 2 ^ 32) + 1) ((p.start + pl + a) % 2 ^ 32) ≡ p.start + cond b (even ((pl + a) % 2 ^ 32) + 1) ((pl + a) % 2 ^ 32)
    go true pl a less = of_function p.start pl a p.section.size h.fours h.low less
    go false pl a less = of_other p.start pl a p.section.size h.fours h.low less

pub target_is : (parts : List Placed) (l : Link) (j : ℕ) (p : Placed) → InCode parts l.meant j p → own_target l.meant (addend_of l) < p.section.size → target_of parts l ≡ p.start + own_target l.meant (addend_of l)
target_is parts l j p h lt =
    let e : stands parts l.meant ≡ p.start + own_place l.meant = stand_is parts l.meant j p h in
    ap (λ (n : ℕ). ((n + addend_of l) % 2 ^ 32 + 4) % 2 ^ 32) e ∙ of_branch p.start (own_place l.meant) (addend_of l) p.section.size h.low lt
