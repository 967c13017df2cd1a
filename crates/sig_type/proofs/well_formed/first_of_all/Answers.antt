use Rattle.sig_type.proofs.{name_of, model_of, Name, texts_more, name_is, again_same, rules_more, rules_until, rules_all, interface_models, Interface, ap, sym, ◌∙◌, ◌≡◌, ◌<◌, ◌+◌, ◌++◌, ◌∷◌, [], length, arith, is_some, true, false, length-map, slice_get_read, read_mapped}
use Rattle.sig_type.proofs.well_formed.first_of_all.Goals as goal

pub first_of_process-requires-clause-here : goal.first_of_process-requires-clause-here
first_of_process-requires-clause-here c =
    let items = c.args.processes.now.interfaces.items in
    let h : c.loop-place.place < length items = rw c.as_slice-interface-items.ensures at c.loop-place-test.true in
    let same : length (interface_models items) ≡ length items = length-map items _ in
    let is = rw c.as_slice-interface-items.ensures at c.interface-item.is in
    slice_get_read (interface_models items) (length items) c.loop-place.place (model_of c.interface-item.result.process.now) (sym same) h (read_mapped (λ (i : Interface). model_of i.process.now) items c.loop-place.place c.interface-item.result h is)

pub first_of_process-requires-clause-again : goal.first_of_process-requires-clause-again
first_of_process-requires-clause-again c = again_same _ _ _ _ _ c.loop-place.invariant.named (c.as_bytes.ensures ∙ sym (ap (λ (n : Name). n.text) (name_is c.interface-item.result.process.now))) c.in_ok-again.ensures.before

pub loop-place-preserved : goal.loop-place-preserved
loop-place-preserved c =
    let items = c.args.processes.now.interfaces.items in
    let h : c.loop-place.place < length items = rw c.as_slice-interface-items.ensures at c.loop-place-test.true in
    let same : length (interface_models items) ≡ length items = length-map items _ in
    let is = rw c.as_slice-interface-items.ensures at c.interface-item.is in
    let read = read_mapped (λ (i : Interface). model_of i.process.now) items c.loop-place.place c.interface-item.result h is in
    record {
      named = texts_more name_of (interface_models items) c.loop-place.place (model_of c.interface-item.result.process.now) _ _ read (omega arith) c.loop-place.invariant.named
          (c.in_ok-again.ensures.added ∙ ap (λ t. c.loop-place.earlier ++ t ∷ []) (c.as_bytes.ensures ∙ sym (ap (λ (n : Name). n.text) (name_is c.interface-item.result.process.now))));
      finds = rules_more (interface_models items) c.loop-place.place (model_of c.interface-item.result.process.now) read (omega arith) c.loop-place.invariant.finds c.in_ok-first_of_process.ensures;
    }

pub returns-then-is_some : goal.returns-then-is_some
returns-then-is_some c =
    let items = c.args.processes.now.interfaces.items in
    let h : c.loop-place.place < length items = rw c.as_slice-interface-items.ensures at c.loop-place-test.true in
    let same : length (interface_models items) ≡ length items = length-map items _ in
    let is = rw c.as_slice-interface-items.ensures at c.interface-item.is in
    let read = read_mapped (λ (i : Interface). model_of i.process.now) items c.loop-place.place c.interface-item.result h is in
    rules_until (interface_models items) (c.loop-place.place + 1) c.new-first.ensures (λ none. let found : true ≡ false = sym c.if-is_some.true ∙ c.is_some.ensures ∙ ap is_some none in cc)
    (rules_more (interface_models items) c.loop-place.place (model_of c.interface-item.result.process.now) read (omega arith) c.loop-place.invariant.finds c.in_ok-first_of_process.ensures)

pub returns : goal.returns
returns c =
    let items = c.args.processes.now.interfaces.items in
    let same : length (interface_models items) ≡ length items = length-map items _ in
    let h = rw c.as_slice-interface-items.ensures at c.loop-place-test.false in
    rules_all (interface_models items) c.loop-place.place c.new-first.ensures (omega (arith, h)) c.loop-place.invariant.finds
