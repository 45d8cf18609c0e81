use Rattle.std.proofs.Common.{◌≡◌, ◌++◌, ◌∷◌, [], ◌∙◌, ◌+◌, ap, sym, List, ℕ, take, replicate, subst}
use Rattle.std.proofs.lemmas.List.{map-append, take_more}
use Rattle.std.proofs.lemmas.List.Elements.{All-nil, All-cons, All-append}
use Rattle.std.specs.Prelude.{All}
use Rattle.elf_model.specs.Fits.{SymbolFits}
use Rattle.std.specs.List.{flat_map}
use Rattle.elf_model.specs.declared.objects.Symbol.{Symbol}
use Rattle.elf_model.specs.Canonical.{symbol_row, name_offset}
use Rattle.elf_write.specs.Writing.{IsTable}
use Rattle.elf_write.proofs.Rows.{names_in, one_symbol}
use Rattle.elf_write.proofs.symbols.symbol_rows.Goals as goal

pub loop-s-preserved : goal.loop-s-preserved
loop-s-preserved c =
    let xs : List Symbol = take c.loop-s.s-index c.args.symbols.now in
    let s : Symbol = c.s-item.result in
    let name : c.bytes.result.now ≡ s.name = c.bytes.ensures in
    let more : take (c.loop-s.s-index + 1) c.args.symbols.now ≡ xs ++ s ∷ [] = take_more c.args.symbols.now c.loop-s.s-index s c.loop-s-test.true ∙ ap (λ (x : Symbol). xs ++ x ∷ []) (sym c.s-item.is) in
    let offset : c.in_ok-name.name ≡ name_offset (names_in xs ++ s.name ∷ []) s.name =
    c.in_ok-name.ensures.offset (names_in xs) c.loop-s.invariant.names ∙ ap (λ (n : List ℕ). name_offset (names_in xs ++ n ∷ []) n) name in
    let table : IsTable c.add.new.self (names_in xs ++ s.name ∷ []) = subst (λ (n : List ℕ). IsTable c.add.new.self (names_in xs ++ n ∷ [])) name (c.in_ok-name.ensures.table (names_in xs) c.loop-s.invariant.names) in
    record {
      rows = one_symbol xs s (replicate 16 0) c.loop-s.rows.items c.put_symbol.new.rows.items c.in_ok-name.name c.loop-s.invariant.rows offset c.in_ok-put_symbol.ensures.row
          ∙ ap (λ (ys : List Symbol). replicate 16 0 ++ flat_map (symbol_row (names_in ys)) ys) (sym more);
      names = subst (λ (ns : List (List ℕ)). IsTable c.add.new.self ns) (sym (map-append (λ (x : Symbol). x.name) xs (s ∷ [])) ∙ ap names_in (sym more)) table;
      fit = subst (All SymbolFits) (sym more) (All-append SymbolFits xs (s ∷ []) c.loop-s.invariant.fit (All-cons SymbolFits s [] c.put_symbol.ensures.fits (All-nil SymbolFits)));
    }
