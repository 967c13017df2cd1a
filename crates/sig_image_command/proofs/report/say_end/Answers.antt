use Rattle.sig_image_command.proofs.report.say_end.Goals as goal

pub returns-in-Exhausted : goal.returns-in-Exhausted
returns-in-Exhausted g c = λ stays. rw (c.in-Exhausted.is) (rw (c.as_bytes-count.ensures.value, c.format.ensures.text, c.input_name-name.ensures) at (c.say.ensures stays))

pub returns-in-Limit : goal.returns-in-Limit
returns-in-Limit g c = λ stays. rw (c.in-Limit.is) (rw (c.as_bytes-count.ensures.value, c.format.ensures.text) at (c.say-in-Limit.ensures stays))
