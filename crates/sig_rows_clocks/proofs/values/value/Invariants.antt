use Rattle.sig_rows_clocks.proofs.values.value.Given as goal

abbrev pub ghosts-value_with : goal.ghosts-value_with
ghosts-value_with a = record { name = a.blank.name; parts = a.blank.parts }
