use Rattle.std.proofs.Common.{sym, ◌∙◌}
use Rattle.std.proofs.lemmas.List.{append_cancel_left}
use Rattle.sig_text.proofs.mem_sink.mem_sink_tells_bytes.Goals as goal

pub returns : goal.returns
returns c before after bytes others one other = append_cancel_left before.bytes bytes others (sym one ∙ other)
