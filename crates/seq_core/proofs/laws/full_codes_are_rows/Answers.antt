use Rattle.seq_core.proofs.laws.full_codes_are_rows.Goals as goal

pub returns : goal.returns
returns c = λ i names takes full. let code = (c.full_codes_are_told.ensures i names takes).0 full in record { first = code.0; second = code.1; stands = code.2.3 }
