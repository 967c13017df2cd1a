use Rattle.sig_rel.proofs.{◌<◌, ◌≡◌, ℕ, true, false, length, Option, Some, subst, IsFoundAmong, is_waiting, nothing_left, planned_cut, Presence, Truth}
use Rattle.sig_rel.proofs.schedules.Scheduling.next_cut.Goals as goal

pub returns-in-Some : goal.returns-in-Some
returns-in-Some c =
    let kernel = c.args.kernel.now in
    let scheduling = c.args.self.now in
    let found : IsFoundAmong kernel (is_waiting kernel scheduling true) (Some c.in-Some.signal) = subst (λ (o : Option ℕ). IsFoundAmong kernel (is_waiting kernel scheduling true) o) c.in-Some.is c.in_ok-signal.ensures in
    planned_cut kernel c.requires.valid scheduling c.requires.scheduling c.cut.result (Truth c.in-Some.signal) c.cut.ensures.element c.cut.ensures.equation found.0 found.1

pub returns-in-Some-2 : goal.returns-in-Some-2
returns-in-Some-2 c =
    let kernel = c.args.kernel.now in
    let scheduling = c.args.self.now in
    let found : IsFoundAmong kernel (is_waiting kernel scheduling false) (Some c.in-Some-2.class) = subst (λ (o : Option ℕ). IsFoundAmong kernel (is_waiting kernel scheduling false) o) c.in-Some-2.is c.in_ok-class-in-None.ensures in
    planned_cut kernel c.requires.valid scheduling c.requires.scheduling c.cut-in-Some-2.result (Presence c.in-Some-2.class) c.cut-in-Some-2.ensures.element c.cut-in-Some-2.ensures.equation found.0 found.1

pub returns-in-None-2 : goal.returns-in-None-2
returns-in-None-2 c =
    let kernel = c.args.kernel.now in
    let scheduling = c.args.self.now in
    let no_class : (class : ℕ) → class < length kernel.signals → is_waiting kernel scheduling false class ≡ false =
    subst (λ (o : Option ℕ). IsFoundAmong kernel (is_waiting kernel scheduling false) o) c.in-None-2.is c.in_ok-class-in-None.ensures in
    let no_truth : (signal : ℕ) → signal < length kernel.signals → is_waiting kernel scheduling true signal ≡ false =
    subst (λ (o : Option ℕ). IsFoundAmong kernel (is_waiting kernel scheduling true) o) c.in-None.is c.in_ok-signal.ensures in
    nothing_left kernel c.requires.valid scheduling c.requires.scheduling no_class no_truth
