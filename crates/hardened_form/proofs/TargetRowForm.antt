-- What the form of the row with a target says, by computation.
use Rattle.std.specs.Prelude.{◌≡◌, ℕ, true, List, [], ◌∷◌, Some, None, Contains, codes, refl}
use Rattle.std.specs.Fmt.{digits}
use Rattle.std.specs.List.Sorted.{IsStrictlySortedBy}
use Rattle.std.proofs.Common.{arith, sym, inl}
use Rattle.std.proofs.lemmas.Bool.{true≢false}
use Rattle.std.proofs.lemmas.Option.{none-some}
use Rattle.elf_model.specs.declared.objects.Section.{Section}
use Rattle.elf_model.specs.declared.objects.Reloc.{Reloc}
use Rattle.elf_model.specs.Fields.{word_at}
use Rattle.elf_model.specs.Objects.{is_code}
use Rattle.reloc_places.specs.Starts.{bytes_of}
use Rattle.flow_recover.specs.declared.flows.Point.{Point}
use Rattle.flow_recover.specs.declared.flows.PoolWord.{PoolWord}
use Rattle.flow_recover.specs.declared.flows.Exit.TheVariants as exits
use Rattle.hardened_form.specs.Places.{UnitPlace}
use Rattle.hardened_form.specs.Items.{Item, AreItems, all_items}
use Rattle.hardened_form.specs.Standing.{units, pool, old_points, old_words}
use Rattle.hardened_form.specs.Turns.{IsTarget, IsTurnedTo}
use Rattle.hardened_form.specs.Turns.{Stays as stays}
use Rattle.hardened_form.specs.MappingSymbols.{Mapping, IsMapping}
use Rattle.hardened_form.specs.MappingSymbols.{IsMapping as mapping}
use Rattle.hardened_form.specs.Symbols.{new_symbols}
use Rattle.hardened_form.specs.Carriers.{Carrier}
use Rattle.hardened_form.specs.Relocs.{IsNewReloc}
use Rattle.hardened_form.specs.Relocs.{IsNewReloc as news}
use Rattle.hardened_form.specs.Relocs.{IsNewSymbol as symbols}
use Rattle.hardened_form.specs.Relocs.{IsWordOf as words}
use Rattle.hardened_form.specs.Code.{AreTiled, AreWords, IsTiled, reloc_of, word_number}
use Rattle.hardened_form.specs.FirstRow.{text_of, function_symbol}
use Rattle.hardened_form.specs.TargetRow.{symbol, outer, address_at, branch_at, plain, new_bytes, hard, branch, point, pool_word, flow, places, carriers, target, lists, TargetRowReads}
use Rattle.hardened_form.proofs.ShortLists.{each_of, each_at}

abbrev all : List Item
all = all_items (old_points flow) (old_words flow) places

are_items : AreItems (old_points flow) (old_words flow) places lists.items
unfolding IsStrictlySortedBy
are_items = record {
  units = refl;
  pool = refl;
  same = λ it. (
    each_of (Contains all) lists.items ((0, omega arith, refl), ((1, omega arith, refl), ((4, omega arith, refl), ((2, omega arith, refl), ((3, omega arith, refl), tt))))) it,
    each_of (Contains lists.items) all ((0, omega arith, refl), ((1, omega arith, refl), ((3, omega arith, refl), ((4, omega arith, refl), ((2, omega arith, refl), tt))))) it,
  );
  rise = ((refl, (refl, (refl, (refl, tt)))), ((refl, (refl, (refl, tt))), ((refl, (refl, tt)), ((refl, tt), (tt, tt)))));
}

tiled : AreTiled hard lists.items
tiled =
    each_at (λ j t. is_code t ≡ true → IsTiled lists.items j t) hard.sections (
      (λ c. record { stand = (refl, (refl, (refl, (refl, (refl, refl))))); filled = (inl refl, (inl refl, (inl refl, (inl refl, (inl refl, tt))))) }),
      ((λ c. absurd (true≢false (sym c))), ((λ c. absurd (true≢false (sym c))), tt)),
    )

symbols_are : hard.symbols ≡ new_symbols plain hard lists
unfolding digits
symbols_are = refl

are_mappings : (m : Mapping) → Contains lists.mappings m → IsMapping hard flow places m
are_mappings =
    each_of (IsMapping hard flow places) lists.mappings
    (mapping.first 0 (text_of 24 new_bytes) refl refl (omega arith) refl, (mapping.word 0 12 refl refl, (mapping.behind 0 16 refl refl, tt)))

pool_target : IsTarget plain (address_at 0 8 3) target
pool_target = record { symbol = symbol [] 0 0 0 3; names = refl; home = refl; old = refl }

data_target : IsTarget plain (address_at 1 0 3) target
data_target = record { symbol = symbol [] 0 0 0 3; names = refl; home = refl; old = refl }

turned_to : IsTurnedTo plain flow target
turned_to = record { number = 1; reloc = address_at 0 8 3; there = refl; stays = stays.of_word pool_word (0, omega arith, refl) refl; turned = refl; target = pool_target }

-- the word
no_island : (x : Point) (u : UnitPlace) (y : ℕ) → Contains (units flow places) (x, u) → u.island ≡ Some y → ⊥
no_island x u y c e =
    each_of (λ (e : Point × UnitPlace). e.1.island ≡ Some y → ⊥) (units flow places) ((λ e. none-some y e), ((λ e. none-some y e), ((λ e. none-some y e), ((λ e. none-some y e), tt)))) (x, u) c e

are_words : AreWords plain hard flow places
are_words w _ (words.in_pool y c) =
    each_of (λ (e : PoolWord × ℕ). word_at (bytes_of hard e.0.section) e.1 ≡ word_number plain e.0 (reloc_of plain e.0.reloc)) (pool flow places) (refl, tt) (w, y) c
are_words w _ (words.in_island x u n y c e f g) = absurd (no_island x u y c g)

-- the relocations
abbrev IsNew : Reloc → Type 0
IsNew q = IsNewReloc plain flow places carriers lists q

abbrev both : List Carrier
both = record { at = 4; instr = branch } ∷ record { at = 8; instr = branch } ∷ []

on_branch : (x : ℕ) → Contains {X = Carrier} both (record { at = x; instr = branch }) → IsNew (branch_at x 7)
on_branch x here = news.of_step 0 (branch_at 2 6) (point 2 true branch exits.Transfer None (Some 0) None) (record { at = x; instr = branch })
    (record { all = both; unit = (1, omega arith, refl); one = here }) refl
    (record { there = refl; section = refl; offset = refl; kind = refl; symbol = symbols.same outer refl refl refl })

of_word : IsNew (address_at 0 12 5)
of_word = news.of_word 1 (address_at 0 8 3) pool_word 12 (words.in_pool 12 (0, omega arith, refl)) refl
    (record { there = refl; section = refl; offset = refl; kind = refl; symbol = symbols.own 0 target refl pool_target refl refl })

abbrev data_section : Section
data_section = record { name = codes ".data"; kind = 1; flags = 3; align = 4; entry = 0; size = 8; bytes = bytes_of plain 1 }

of_turned : IsNew (address_at 1 0 5)
of_turned = news.of_data 2 (address_at 1 0 3) data_section refl refl
    (record { there = refl; section = refl; offset = refl; kind = refl; symbol = symbols.own 0 target refl data_target refl refl })

of_direct : IsNew (address_at 1 4 6)
of_direct = news.of_data 3 (address_at 1 4 5) data_section refl refl
    (record { there = refl; section = refl; offset = refl; kind = refl; symbol = symbols.same (function_symbol 12) refl refl refl })

pub target_row : TargetRowReads
target_row = record {
  plain_object = refl;
  hard_object = refl;
  items = are_items;
  tiled = tiled;
  symbols = symbols_are;
  mappings = are_mappings;
  target = turned_to;
  words = are_words;
  data_bytes = refl;
  relocs = each_of IsNew hard.relocs (on_branch 4 (0, omega arith, refl), (on_branch 8 (1, omega arith, refl), (of_word, (of_turned, (of_direct, tt)))));
}
