use Rattle.sig_judge_command.proofs.{append_assoc}
use Rattle.sig_judge_command.proofs.verdict.say_broken.Goals as goal

pub returns : goal.returns
returns g c = λ stays.
    simp append_assoc (rw (
      c.as_bytes-instant.ensures.value,
      c.format.ensures.text,
      c.as_bytes-equation.ensures.value,
      c.format-2.ensures.text,
    ) at (c.say.ensures stays))
