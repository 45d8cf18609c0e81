-- The rows of the address map: a Start row for each point, and a Return row for the address behind each call.
use Rattle.std.specs.Prelude.{◌≡◌, ◌↔◌, ℕ, List, take, Contains, count_by}
use Rattle.std.specs.List.Sorted.{IsStrictlySortedBy}
use Rattle.std.specs.declared.cmp.Ordering.{Ordering}
use Rattle.std.specs.Ordering.{nat_cmp, ordering_then}
use Rattle.elf_model.specs.declared.objects.MapRow.{MapRow}
use Rattle.elf_model.specs.declared.objects.RowKind.TheVariants.{Start, Return}
use Rattle.elf_model.specs.Objects.{ObjectParts, is_code}
use Rattle.elf_model.specs.Maps.{row_kind}
use Rattle.flow_recover.specs.declared.flows.Point.{Point}
use Rattle.flow_recover.specs.declared.flows.Exit.TheVariants.{Call}
use Rattle.flow_recover.specs.Flows.{FlowParts}
use Rattle.flow_recover.specs.Points.{end_of}
use Rattle.hardened_form.specs.Places.{UnitPlace, Places}
use Rattle.hardened_form.specs.Standing.{units}

-- a code section's number among the code sections
abbrev pub ordinal : ObjectParts → ℕ → ℕ
ordinal o j = count_by is_code (take j o.sections)

-- what a call returns to stands where its unit says
pub data IsRow (o : ObjectParts) (f : FlowParts) (p : Places) : MapRow → Type 0 where
  starts : (x : Point) (u : UnitPlace) → Contains (units f p) (x, u)
      → IsRow o f p (record { section = ordinal o x.section; old = x.offset; new = u.start; kind = Start })
  returns : (x : Point) (u : UnitPlace) → Contains (units f p) (x, u) → x.exit ≡ Call
      → IsRow o f p (record { section = ordinal o x.section; old = end_of x; new = u.back; kind = Return })

-- by ordinal, old offset and kind
abbrev pub row_cmp : MapRow → MapRow → Ordering
row_cmp a b = ordering_then (nat_cmp a.section b.section) (ordering_then (nat_cmp a.old b.old) (nat_cmp (row_kind a.kind) (row_kind b.kind)))

pub record AreRows (o : ObjectParts) (f : FlowParts) (p : Places) (rows : List MapRow) : Type 0 where
  pub exact : (r : MapRow) → Contains rows r ↔ IsRow o f p r
  pub rise : IsStrictlySortedBy row_cmp rows
