-- those so far hold, and the others are as they were
use Rattle.sig_judge.proofs.{◌≡◌, ◌≤◌, ℕ, length, map, take, get_or, BodySteps, Equation, equation_of}
use Rattle.sig_judge.proofs.body.first_broken.Given as goal

abbrev pub invariant-loop-i : goal.invariant-loop-i
invariant-loop-i l = record {
  same : length l.body.items ≡ length l.initial.body.items;
  done : BodySteps l.row (map equation_of (take l.i l.initial.body.items)) (map equation_of (take l.i l.body.items));
  rest : (k : ℕ) (d : Equation) → l.i ≤ k → get_or l.body.items k d ≡ get_or l.initial.body.items k d;
}
