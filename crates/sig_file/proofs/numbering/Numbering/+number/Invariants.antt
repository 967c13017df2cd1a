use Rattle.sig_file.proofs.numbering.Numbering.+number.Given as goal

abbrev pub decreases-number : goal.decreases-number
decreases-number l = l.r.number
