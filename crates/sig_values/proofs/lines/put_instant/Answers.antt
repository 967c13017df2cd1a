use Rattle.sig_values.proofs.{◌-◌, ◌++◌, ◌∙◌, ℕ, List, length, ap, arith, subst, OnErr, OnOk, TookPrefix, seen_line}
use Rattle.sig_values.proofs.LastOutputs.{none_behind, room_in_front, short_in_front, text_in_front, whole_text}
use Rattle.sig_values.proofs.lines.put_instant.Goals as goal

pub loop-place-init : goal.loop-place-init
loop-place-init g c = record {
  size = c.clear.ensures.size;
  text = λ instant tells. c.clear.ensures.none ∙ none_behind c.args.outputs.now instant;
  short = let none = ap (λ (bytes : List ℕ). length bytes) c.clear.ensures.none in omega (arith, none);
}

pub put_seen-requires : goal.put_seen-requires
put_seen-requires g c =
    let room = c.requires.room in
    let size = c.loop-place.invariant.size in
    let fits = room_in_front c.args.outputs.now c.loop-place.place c.loop-place-test.true c.loop-place.auto.place c.index-outputs-place.result c.index-outputs-place.is c.loop-place.lines.text
    c.loop-place.invariant.short in
    omega (arith, room, size, fits)

pub loop-place-preserved : goal.loop-place-preserved
loop-place-preserved g c =
    let outputs = c.args.outputs.now in
    let place = c.loop-place.place in
    let signal = c.index-outputs-place.result in
    record {
      size = c.put_seen.ensures.size ∙ c.loop-place.invariant.size;
      text = λ instant tells.
          c.put_seen.ensures.text ∙ ap (λ (bytes : List ℕ). seen_line signal c.seen.result ++ bytes) (c.loop-place.invariant.text instant tells)
          ∙ text_in_front outputs place c.loop-place-test.true c.loop-place.auto.place signal c.index-outputs-place.is instant c.seen.result (tells (place - 1) c.seen.result (omega arith) c.seen.ensures);
      short = short_in_front outputs place c.loop-place-test.true c.loop-place.auto.place signal c.index-outputs-place.is c.loop-place.lines.text c.loop-place.invariant.short
          c.put_seen.new.lines.text c.put_seen.ensures.longest;
    }

pub returns-clause-all : goal.returns-clause-all
returns-clause-all g c instant tells =
    subst (λ (bytes : List ℕ). OnOk c.put_all.result (g.S.Sink.took c.args.sink.now bytes c.put_all.new.sink))
    (c.as_bytes.ensures ∙ whole_text c.args.outputs.now instant c.loop-place.place c.loop-place-test.false c.loop-place.lines.text (c.loop-place.invariant.text instant tells)) c.put_all.ensures.all

pub returns-clause-prefix : goal.returns-clause-prefix
returns-clause-prefix g c instant tells =
    subst (λ (bytes : List ℕ). OnErr c.put_all.result (TookPrefix g.S.Sink.took c.args.sink.now bytes c.put_all.new.sink))
    (c.as_bytes.ensures ∙ whole_text c.args.outputs.now instant c.loop-place.place c.loop-place-test.false c.loop-place.lines.text (c.loop-place.invariant.text instant tells)) c.put_all.ensures.prefix
