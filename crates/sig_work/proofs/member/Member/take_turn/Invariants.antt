use Rattle.sig_work.proofs.member.Member.take_turn.Given as goal

-- the ledger of a step is that of its blank
abbrev pub ghosts-act : goal.ghosts-act
ghosts-act g a = record { name = a.blank.name; parts = a.blank.parts }
