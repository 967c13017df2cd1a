use Rattle.sig_rel.proofs.{get_or, sym, ◌∙◌, arith, least_within, room_for_next, GivesClass, GivesTruth, given_both, given_class, has_alone, has_both, kept_both, kept_class}
use Rattle.sig_rel.proofs.numbering.Numbering.number.Goals as goal

pub number_class-requires-clause-class : goal.number_class-requires-clause-class
number_class-requires-clause-class c =
    let lt = least_within c.args.kernel.now c.args.least.now c.requires.least c.args.signal c.requires.within in
    let e = c.requires.given.class_count in
    omega (arith, c.args.self.now.class.ok.0)

pub number_class-requires-clause-room : goal.number_class-requires-clause-room
number_class-requires-clause-room c = room_for_next c.args.kernel.now c.args.least.now c.args.self.now c.requires.valid c.requires.given

pub number_truth-requires-clause-room : goal.number_truth-requires-clause-room
number_truth-requires-clause-room c =
    let gives : GivesClass c.args.self.now c.number_class.new.self (get_or c.args.least.now c.args.signal 0) = record { class = c.number_class.ensures.class; truth = c.number_class.ensures.truth; next = c.number_class.ensures.next } in
    room_for_next c.args.kernel.now c.args.least.now c.number_class.new.self c.requires.valid
    (given_class c.args.kernel.now c.args.least.now _ c.args.self.now c.number_class.new.self c.args.signal c.requires.least c.requires.within c.requires.given gives)

pub returns-then-is_boolean : goal.returns-then-is_boolean
returns-then-is_boolean c =
    let gives : GivesClass c.args.self.now c.number_class.new.self (get_or c.args.least.now c.args.signal 0) = record { class = c.number_class.ensures.class; truth = c.number_class.ensures.truth; next = c.number_class.ensures.next } in
    let also : GivesTruth c.number_class.new.self c.number_truth.new.self c.args.signal = record { class = c.number_truth.ensures.class; truth = c.number_truth.ensures.truth; next = c.number_truth.ensures.next } in
    let boolean = sym c.is_boolean.ensures ∙ c.if-is_boolean.true in
    record {
      given = given_both c.args.kernel.now c.args.least.now _ c.args.self.now c.number_class.new.self c.args.signal c.requires.least c.requires.within c.requires.given gives c.number_truth.new.self boolean also;
      retains = kept_both c.args.kernel.now c.args.least.now _ c.args.self.now c.number_class.new.self c.args.signal c.requires.least c.requires.within c.requires.given gives c.number_truth.new.self boolean also;
      has = has_both c.args.kernel.now c.args.least.now _ c.args.self.now c.number_class.new.self c.args.signal c.requires.least c.requires.within c.requires.given gives c.number_truth.new.self boolean also;
    }

pub returns-else-is_boolean : goal.returns-else-is_boolean
returns-else-is_boolean c =
    let gives : GivesClass c.args.self.now c.number_class.new.self (get_or c.args.least.now c.args.signal 0) = record { class = c.number_class.ensures.class; truth = c.number_class.ensures.truth; next = c.number_class.ensures.next } in
    let no = sym c.is_boolean.ensures ∙ c.if-is_boolean.false in
    record {
      given = given_class c.args.kernel.now c.args.least.now _ c.args.self.now c.number_class.new.self c.args.signal c.requires.least c.requires.within c.requires.given gives;
      retains = kept_class c.args.kernel.now c.args.least.now _ c.args.self.now c.number_class.new.self c.args.signal c.requires.least c.requires.within c.requires.given gives;
      has = has_alone c.args.kernel.now c.args.least.now _ c.args.self.now c.number_class.new.self c.args.signal c.requires.least c.requires.within c.requires.given gives no;
    }
