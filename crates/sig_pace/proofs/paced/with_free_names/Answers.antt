use Rattle.sig_pace.proofs.{◌≤◌, ◌+◌, ◌∙◌, inl, inr, length, refl, sym, arith, cases_lt, false≢true, SIGNALS, few_maximal, maximal_signal}
use Rattle.sig_pace.proofs.paced.with_free_names.Goals as goal

pub are_too_many-requires-clause-few : goal.are_too_many-requires-clause-few
are_too_many-requires-clause-few c =
    let few = few_maximal c.args.kernel.now c.args.least.now c.requires.needs.clocks in
    let some : length c.args.kernel.now.signals ≤ 512 = c.requires.valid.parts.signals in
    omega (arith, few, some)

pub returns-then-are_too_many-clause-refused : goal.returns-then-are_too_many-clause-refused
returns-then-are_too_many-clause-refused c = (
  refl,
  record { least = c.args.least.now; needs = c.requires.needs; free = c.requires.free; many = c.are_too_many.ensures.0 c.if-are_too_many.true },
)

pub kernel_with-requires-clause-few : goal.kernel_with-requires-clause-few
kernel_with-requires-clause-few c =
    let few = few_maximal c.args.kernel.now c.args.least.now c.requires.needs.clocks in
    let some : length c.args.kernel.now.signals ≤ 512 = c.requires.valid.parts.signals in
    omega (arith, few, some)

pub kernel_with-requires-clause-within : goal.kernel_with-requires-clause-within
kernel_with-requires-clause-within c = λ m there. maximal_signal c.args.kernel.now c.args.least.now c.requires.needs.clocks m there

pub returns-clause-paced : goal.returns-clause-paced
returns-clause-paced c = record {
  needs = c.requires.needs;
  free = c.requires.free;
  few = elim (cases_lt SIGNALS (length c.args.kernel.now.signals + (length c.args.least.now + length c.args.least.now))) [
    | inl less ↦ absurd (false≢true (sym c.if-are_too_many.false ∙ c.are_too_many.ensures.1 less))
    | inr le ↦ le
  ];
  is = c.in_ok-paced.ensures;
}
