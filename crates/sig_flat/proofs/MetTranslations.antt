-- Instants that meet the equations of a flat body's translation.
use Rattle.sig_flat.proofs.Common.{◌≡◌, ◌≤◌, ◌<◌, ℕ, zero, suc, Bool, false, List, [], ◌∷◌, None, Some, is_some, length, refl, sym, ap, subst, ◌∙◌, arith, AllByRecursion, Kind, SigId, Signal as Declared, Span, Seen, Instant, Bounded, AreOfKinds, seen_at, FlatExpression, FlatEquation, Defines, Equal, Found, kinds_of, Steps, EquationSteps, BodySteps, IsWhole, IsMadeEquation, kind_numbered, found_at, Site, Made, Translated, Together, next as next_signal, signal_in, place_of, with_all_syncs, translate, operands_from, with_flat_equation, with_flat_equations}
use Rattle.sig_tree.specs.Operators.{Signal}
use Rattle.sig_flat.proofs.AddedBehind.{translate_grows, equation_grows}
use Rattle.sig_flat.proofs.Agreement.{Agree, agree_less, Fitting, Suits}
use Rattle.sig_flat.proofs.Instants.{behind_made}
use Rattle.sig_flat.proofs.Kinded.{stays_made, steps_same}
use Rattle.sig_flat.proofs.TranslationCases.{is_fixed_where, is_fixed, found_signal, is_left, Met}
use Rattle.sig_flat.proofs.MetExpressions.{says}
use Rattle.sig_flat.proofs.AddedSignals.{Over, over_size, over_then, same_seen}
use Rattle.sig_flat.proofs.ExpressionValues.{OneStep, same_found, determined}
use Rattle.sig_flat.proofs.TranslatedEquations.{site_of, shared, ArePresent, all_syncs_met, all_syncs_meet, all_syncs_behind, all_syncs_add_none, AreThere, AreWhole, there_from, there_to, there_at}

-- the operands of a clock equation
record OperandsSay (site : Site) (es : List FlatExpression) (made : Made) (now : Instant) (present : Bool) : Type 0 where
  nexts : List FlatExpression
  there : AreThere now present es nexts
  signals : (operands_from site nexts (behind_made now made)).signals ≡ (operands_from site es made).signals
  is : (operands_from site nexts (behind_made now made)).made ≡ behind_made now (operands_from site es made).made

operands_before : (site : Site) (signals : List Declared) (es : List FlatExpression) (made : Made) (now : Instant) → Fitting now → AreWhole signals es
    → Met now (operands_from site es made).made → Met now made
operands_before site signals [] made now fits h m = m
operands_before site signals (e ∷ es) made now fits h m =
    let w = h.0.1 in
    (says None site signals e made now fits w.made (operands_before site signals es (translate None site e made).made now fits h.1 m)).before

operands_say : (site : Site) (signals : List Declared) (es : List FlatExpression) (made : Made) (now : Instant) (present : Bool) → Fitting now → Suits signals now → AreWhole signals es
    → Met now (operands_from site es made).made → ArePresent now present (operands_from site es made).signals → OperandsSay site es made now present
operands_say site signals [] made now present fits suits h m p = record { nexts = []; there = tt; signals = refl; is = refl }
operands_say site signals (e ∷ es) made now present fits suits h m p =
    let w = h.0.1 in
    let x : Translated = translate None site e made in
    let before : Met now x.made = operands_before site signals es x.made now fits h.1 m in
    let s = says None site signals e made now fits w.made before in
    let r = operands_say site signals es x.made now present fits suits h.1 m p.1 in
    let shape : is_fixed x.operand ≡ false = is_fixed_where None site e made ∙ w.signal in
    let v : Seen = seen_at now (signal_in x.operand).0 in
    let place : place_of s.next ≡ place_of e = (stays_made signals now suits e (found_at now x.operand) s.next w.made s.steps).place in
    let head : (signal_in (translate None site s.next (behind_made now made)).operand, place_of s.next) ≡ (signal_in x.operand, place_of e) =
    ap (λ (t : Translated). (signal_in t.operand, place_of s.next)) s.is ∙ ap (λ (q : Span). (signal_in x.operand, q)) place in
    let rest_signals : (operands_from site r.nexts (translate None site s.next (behind_made now made)).made).signals ≡ (operands_from site es x.made).signals =
    ap (λ (t : Translated). (operands_from site r.nexts t.made).signals) s.is ∙ r.signals in
    record {
      nexts = s.next ∷ r.nexts;
      there = ((v, p.0, subst (λ o. Steps e now o s.next) (found_signal now x.operand shape) s.steps), r.there);
      signals = ap (λ (q : SigId × Span). q ∷ (operands_from site r.nexts (translate None site s.next (behind_made now made)).made).signals) head
          ∙ ap (λ (qs : List (SigId × Span)). (signal_in x.operand, place_of e) ∷ qs) rest_signals;
      is = ap (λ (t : Translated). (operands_from site r.nexts t.made).made) s.is ∙ r.is;
    }

-- an instant goes on to one over what is made
pub record Goes (after made : Made) (now : Instant) : Type 0 where
  pub whole : Instant
  pub kinds : AreOfKinds Bounded (kinds_of after.signals) whole
  pub begins : (other : Instant) → Agree (next_signal after) whole other → Agree (next_signal made) now other
  pub met : (other : Instant) → Fitting other → Agree (next_signal after) whole other → Met other made → Met other after
  pub only : (other : Instant) → Fitting other → Agree (next_signal made) now other → Met other after → Agree (next_signal after) whole other

record OperandsGo (t : Together) (made : Made) (now : Instant) (present : Bool) : Type 0 where
  goes : Goes t.made made now
  there : (other : Instant) → Agree (next_signal t.made) goes.whole other → ArePresent other present t.signals

operands_go : OneStep → (site : Site) (signals : List Declared) (es nexts : List FlatExpression) (made : Made) (now : Instant) (present : Bool) → Over signals made
    → AreOfKinds Bounded (kinds_of made.signals) now → AreWhole signals es → AreThere now present es nexts → OperandsGo (operands_from site es made) made now present
operands_go one site signals [] [] made now present over k h a = record {
  goes = record { whole = now; kinds = k; begins = λ other agree. agree; met = λ other fits agree m. m; only = λ other fits agree m. agree };
  there = λ other agree. tt;
}
operands_go one site signals (e ∷ es) (r ∷ nexts) made now present over k h a =
    let w = h.0.1 in
    let s : Seen = a.0.0 in
    let steps : Steps e now (Signal s) r = a.0.2 in
    let x : Translated = translate None site e made in
    let over_x : Over signals x.made = over_then signals made x.made over (translate_grows None site e made) in
    let d = determined one None site signals e made now (Signal s) r h.0.0 over k w.made w.kinded tt steps in
    let begins : Agree (next_signal made) now d.whole = d.begins d.whole (λ n below. refl) in
    let rest = operands_go one site signals es nexts x.made d.whole present over_x d.kinds h.1
    (there_at signals now d.whole present es nexts h.1 (agree_less (length signals) (next_signal made) now d.whole (over_size signals made over) begins) a.1) in
    let g = rest.goes in
    let shape : is_fixed x.operand ≡ false = is_fixed_where None site e made ∙ w.signal in
    record {
      goes = record {
        whole = g.whole;
        kinds = g.kinds;
        begins = λ other agree. d.begins other (g.begins other agree);
        met = λ other fits agree m. g.met other fits agree (d.met other fits (g.begins other agree) m);
        only = λ other fits agree m.
            let before : Met other x.made = operands_before site signals es x.made other fits h.1 m in
            g.only other fits (d.only other fits agree before
            (same_found one None site signals e made now other (Signal s) r over w.made steps fits agree (says None site signals e made other fits w.made before))) m;
      };
      there = λ other agree. (
        ap is_some (same_seen (seen_at other (signal_in x.operand).0) s (sym (found_signal other x.operand shape) ∙ d.found other (g.begins other agree))) ∙ a.0.1,
        rest.there other agree,
      );
    }
operands_go one site signals _ _ made now present over k h a = absurd a

-- a flat equation
pub record EquationSays (q : FlatEquation) (made : Made) (now : Instant) : Type 0 where
  pub next : FlatEquation
  pub steps : EquationSteps now q next
  pub is : with_flat_equation next (behind_made now made) ≡ behind_made now (with_flat_equation q made)

pub equation_before : (signals : List Declared) (q : FlatEquation) (made : Made) (now : Instant) → Fitting now → IsMadeEquation signals q → Met now (with_flat_equation q made) → Met now made
equation_before signals (Defines left e prefix) made now fits h m = let w = h.3 in (says (Some left) (site_of left prefix made) signals e made now fits w.made m).before
equation_before signals (Equal es prefix) made now fits h m =
    let t : Together = operands_from (shared prefix) es made in
    operands_before (shared prefix) signals es made now fits h (all_syncs_met now t.signals t.made m).0

pub equation_says : (signals : List Declared) (q : FlatEquation) (made : Made) (now : Instant) → Fitting now → Suits signals now → IsMadeEquation signals q → Met now (with_flat_equation q made) → EquationSays q made now
equation_says signals (Defines left e prefix) made now fits suits h m =
    let w = h.3 in
    let site : Site = site_of left prefix made in
    let s = says (Some left) site signals e made now fits w.made m in
    record {
      next = Defines left s.next prefix;
      steps = (s.next, subst (λ o. Steps e now o s.next) (ap (found_at now) (is_left left site e made w.signal)) s.steps, refl);
      is = ap (λ (t : Translated). t.made) s.is;
    }
equation_says signals (Equal es prefix) made now fits suits h m =
    let site : Site = shared prefix in
    let t : Together = operands_from site es made in
    let r = all_syncs_met now t.signals t.made m in
    let s = operands_say site signals es made now r.1 fits suits h r.0 r.2 in
    record {
      next = Equal s.nexts prefix;
      steps = (s.nexts, there_to signals now r.1 es s.nexts h s.there, refl);
      is = ap (λ (qs : List (SigId × Span)). with_all_syncs qs (operands_from site s.nexts (behind_made now made)).made) s.signals
          ∙ ap (with_all_syncs t.signals) s.is ∙ all_syncs_behind now t.signals t.made;
    }

numbered_below : (signals : List Declared) (x : ℕ) (kind : Kind) → kind_numbered signals x ≡ Some kind → x < length signals
numbered_below [] x kind e = absurd cc
numbered_below (s ∷ signals) zero kind e = omega arith
numbered_below (s ∷ signals) (suc x) kind e = let rest : x < length signals = numbered_below signals x kind e in omega arith

pub equation_goes : OneStep → (signals : List Declared) (q next : FlatEquation) (made : Made) (now : Instant) → Over signals made → AreOfKinds Bounded (kinds_of made.signals) now
    → IsMadeEquation signals q → EquationSteps now q next → Goes (with_flat_equation q made) made now
equation_goes one signals (Defines left e prefix) next made now over k h a =
    let w = h.3 in
    let site : Site = site_of left prefix made in
    let few : length signals ≤ next_signal made = over_size signals made over in
    let below : left < length signals = numbered_below signals left h.0 h.2 in
    let o : Found = Signal (seen_at now left) in
    let d = determined one (Some left) site signals e made now o a.0 h.1 over k w.made w.kinded (omega arith, refl) a.1 in
    record {
      whole = d.whole;
      kinds = d.kinds;
      begins = d.begins;
      met = d.met;
      only = λ other fits agree m. d.only other fits agree m
          (same_found one (Some left) site signals e made now other o a.0 over w.made a.1 fits agree (says (Some left) site signals e made other fits w.made m));
    }
equation_goes one signals (Equal es prefix) next made now over k h a =
    let site : Site = shared prefix in
    let t : Together = operands_from site es made in
    let there = there_from signals now es a.0 h a.1 in
    let g = operands_go one site signals es a.0 made now there.0 over k h there.1 in
    let c = g.goes in
    let same : next_signal (with_all_syncs t.signals t.made) ≡ next_signal t.made = ap (λ (xs : List Declared). length xs) (all_syncs_add_none t.signals t.made) in
    let to = λ (other : Instant) (agree : Agree (next_signal (with_all_syncs t.signals t.made)) c.whole other). subst (λ (n : ℕ). Agree n c.whole other) same agree in
    record {
      whole = c.whole;
      kinds = subst (λ (xs : List Declared). AreOfKinds Bounded (kinds_of xs) c.whole) (sym (all_syncs_add_none t.signals t.made)) c.kinds;
      begins = λ other agree. c.begins other (to other agree);
      met = λ other fits agree m. all_syncs_meet other there.0 t.signals t.made (c.met other fits (to other agree) m) (g.there other (to other agree));
      only = λ other fits agree m. subst (λ (n : ℕ). Agree n c.whole other) (sym same) (c.only other fits agree (all_syncs_met other t.signals t.made m).0);
    }

pub equation_at : (signals : List Declared) (q next : FlatEquation) (now other : Instant) → IsMadeEquation signals q → Agree (length signals) now other → EquationSteps now q next → EquationSteps other q next
equation_at signals (Defines left e prefix) next now other h agree a =
    let w = h.3 in
    let below : left < length signals = numbered_below signals left h.0 h.2 in
    (a.0, subst (λ (s : Seen). Steps e other (Signal s) a.0) (agree left below) (steps_same signals e w.made now other agree (Signal (seen_at now left)) a.0 a.1), a.2)
equation_at signals (Equal es prefix) next now other h agree a =
    let there = there_from signals now es a.0 h a.1 in
    (a.0, there_to signals other there.0 es a.0 h (there_at signals now other there.0 es a.0 h agree there.1), a.2)

whole_behind : (signals : List Declared) (now : Instant) → Suits signals now → (e rest : FlatExpression) (o : Found) (kind : Kind) → IsWhole signals e kind → Steps e now o rest → IsWhole signals rest kind
whole_behind signals now suits e rest o kind w s =
    let r = stays_made signals now suits e o rest w.made s in
    record { made = r.made; signal = r.constant ∙ w.signal; kinded = r.kind ∙ w.kinded }

all_whole : (signals : List Declared) (now : Instant) (present : Bool) → Suits signals now → (es rests : List FlatExpression) → AreWhole signals es → AreThere now present es rests → AreWhole signals rests
all_whole signals now present suits [] [] h a = tt
all_whole signals now present suits (e ∷ es) (r ∷ rests) h a =
    ((h.0.0, whole_behind signals now suits e r (Signal a.0.0) h.0.0 h.0.1 a.0.2), all_whole signals now present suits es rests h.1 a.1)
all_whole signals now present suits _ _ h a = absurd a

equation_stays : (signals : List Declared) (now : Instant) → Suits signals now → (q next : FlatEquation) → IsMadeEquation signals q → EquationSteps now q next → IsMadeEquation signals next
equation_stays signals now suits (Defines left e prefix) next h a =
    subst (IsMadeEquation signals) (sym a.2) (h.0, h.1, h.2, whole_behind signals now suits e a.0 (Signal (seen_at now left)) h.1 h.3 a.1, h.4)
equation_stays signals now suits (Equal es prefix) next h a =
    let there = there_from signals now es a.0 h a.1 in
    subst (IsMadeEquation signals) (sym a.2) (all_whole signals now there.0 suits es a.0 h there.1)

-- all flat equations
pub record BodySays (qs : List FlatEquation) (made : Made) (now : Instant) : Type 0 where
  pub nexts : List FlatEquation
  pub steps : BodySteps now qs nexts
  pub is : with_flat_equations nexts (behind_made now made) ≡ behind_made now (with_flat_equations qs made)

abbrev pub AreMade : List Declared → List FlatEquation → Type 0
AreMade signals qs = AllByRecursion (IsMadeEquation signals) qs

pub body_before : (signals : List Declared) (qs : List FlatEquation) (made : Made) (now : Instant) → Fitting now → AreMade signals qs → Met now (with_flat_equations qs made) → Met now made
body_before signals [] made now fits h m = m
body_before signals (q ∷ qs) made now fits h m = equation_before signals q made now fits h.0 (body_before signals qs (with_flat_equation q made) now fits h.1 m)

pub body_says : (signals : List Declared) (qs : List FlatEquation) (made : Made) (now : Instant) → Fitting now → Suits signals now → AreMade signals qs → Met now (with_flat_equations qs made) → BodySays qs made now
body_says signals [] made now fits suits h m = record { nexts = []; steps = tt; is = refl }
body_says signals (q ∷ qs) made now fits suits h m =
    let s = equation_says signals q made now fits suits h.0 (body_before signals qs (with_flat_equation q made) now fits h.1 m) in
    let r = body_says signals qs (with_flat_equation q made) now fits suits h.1 m in
    record { nexts = s.next ∷ r.nexts; steps = (s.steps, r.steps); is = ap (with_flat_equations r.nexts) s.is ∙ r.is }

pub body_at : (signals : List Declared) (qs nexts : List FlatEquation) (now other : Instant) → AreMade signals qs → Agree (length signals) now other → BodySteps now qs nexts → BodySteps other qs nexts
body_at signals [] [] now other h agree a = tt
body_at signals (q ∷ qs) (n ∷ nexts) now other h agree a = (equation_at signals q n now other h.0 agree a.0, body_at signals qs nexts now other h.1 agree a.1)
body_at signals _ _ now other h agree a = absurd a

pub body_goes : OneStep → (signals : List Declared) (qs nexts : List FlatEquation) (made : Made) (now : Instant) → Over signals made → AreOfKinds Bounded (kinds_of made.signals) now
    → AreMade signals qs → BodySteps now qs nexts → Goes (with_flat_equations qs made) made now
body_goes one signals [] nexts made now over k h a =
    record { whole = now; kinds = k; begins = λ other agree. agree; met = λ other fits agree m. m; only = λ other fits agree m. agree }
body_goes one signals (q ∷ qs) [] made now over k h a = absurd a
body_goes one signals (q ∷ qs) (n ∷ nexts) made now over k h a =
    let g = equation_goes one signals q n made now over k h.0 a.0 in
    let begins : Agree (next_signal made) now g.whole = g.begins g.whole (λ x below. refl) in
    let there = body_at signals qs nexts now g.whole h.1 (agree_less (length signals) (next_signal made) now g.whole (over_size signals made over) begins) a.1 in
    let r = body_goes one signals qs nexts (with_flat_equation q made) g.whole (over_then signals made (with_flat_equation q made) over (equation_grows q made)) g.kinds h.1 there in
    record {
      whole = r.whole;
      kinds = r.kinds;
      begins = λ other agree. g.begins other (r.begins other agree);
      met = λ other fits agree m. r.met other fits agree (g.met other fits (r.begins other agree) m);
      only = λ other fits agree m. r.only other fits (g.only other fits agree (body_before signals qs (with_flat_equation q made) other fits h.1 m)) m;
    }

pub body_stays : (signals : List Declared) (now : Instant) → Suits signals now → (qs nexts : List FlatEquation) → AreMade signals qs → BodySteps now qs nexts → AreMade signals nexts
body_stays signals now suits [] [] h a = tt
body_stays signals now suits (q ∷ qs) (n ∷ nexts) h a = (equation_stays signals now suits q n h.0 a.0, body_stays signals now suits qs nexts h.1 a.1)
body_stays signals now suits _ _ h a = absurd a
