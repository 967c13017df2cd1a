use Rattle.sig_interleaving.proofs.{◌≡◌, ◌<◌, ◌∙◌, ◌^◌, ℕ, arith, ap, rules, min, Option, Place, place_of_step, step_commits, step_core, step_leaves, step_stepped, step_tells, word_by, word_stays, word_lesser, IsWord, given_of, Core, Failed}
use Rattle.sig_interleaving.proofs.state.Core.step.Given.{Over}
use Rattle.sig_interleaving.proofs.state.Core.step.Goals as goal

-- the core with another word
abbrev with_word : ℕ → Core → Core
with_word w c = record c { word = w }

module _ (g : Over) (c : goal.After-self-1 g) where
  -- the word is the lesser of itself and the place
  lesser : (word : Option Place) → IsWord word c.args.self.now.word → IsWord (word_by (Failed c.in-Failed.place) word) c.min-self.result
  lesser word is =
      let failure = place_of_step c.args.self.now c.turn-acted.new.self c.requires.core c.plans_are_accepted.ensures c.args.k (Failed c.in-Failed.place) c.in-Failed.ensures.turn in
      let fits : c.in-Failed.place.pos < 2 ^ 32 = search rules in
      let at = ap (λ (p : Place). p.instant) failure.is in
      let within = failure.within in
      let limit = c.requires.core.limit in
      let old : c.turn-acted.new.self.word ≡ c.args.self.now.word = ap (λ (d : Core). d.word) c.in-Failed.ensures.stays in
      let least = c.min-self.ensures ∙ ap (λ n. min n c.pack.result) old ∙ ap (min c.args.self.now.word) c.pack.ensures in
      word_lesser word c.args.self.now.word is c.in-Failed.place fits (omega (arith, at, within, limit)) c.min-self.result least

  stays : with_word c.min-self.result c.turn-acted.new.self ≡ with_word c.min-self.result (record c.args.self.now { states = c.turn-acted.new.self.states; lists = c.turn-acted.new.self.lists })
  stays = ap (with_word c.min-self.result) c.in-Failed.ensures.stays

pub returns-in-Failed-clause-core : goal.returns-in-Failed-clause-core
returns-in-Failed-clause-core g c =
    step_core c.args.self.now c.turn-acted.new.self c.requires.core c.plans_are_accepted.ensures c.args.k (Failed c.in-Failed.place) c.in-Failed.ensures.turn c.min-self.result (lesser g c) _ (stays g c)

pub returns-in-Failed-clause-stepped : goal.returns-in-Failed-clause-stepped
returns-in-Failed-clause-stepped g c =
    step_stepped c.args.self.now c.turn-acted.new.self c.requires.core c.plans_are_accepted.ensures c.args.k (Failed c.in-Failed.place) c.in-Failed.ensures.turn c.min-self.result (lesser g c) _ (stays g c)

pub returns-in-Failed-clause-commits : goal.returns-in-Failed-clause-commits
returns-in-Failed-clause-commits g c =
    step_commits c.args.self.now c.turn-acted.new.self c.requires.core c.plans_are_accepted.ensures c.args.k (Failed c.in-Failed.place) c.in-Failed.ensures.turn c.min-self.result (lesser g c) _ (stays g c)

pub returns-in-Failed-clause-answer : goal.returns-in-Failed-clause-answer
returns-in-Failed-clause-answer g c =
    step_tells c.args.self.now c.turn-acted.new.self c.requires.core c.plans_are_accepted.ensures c.args.k (Failed c.in-Failed.place) c.in-Failed.ensures.turn c.min-self.result (lesser g c) _ (stays g c)

pub returns-in-Failed-clause-left : goal.returns-in-Failed-clause-left
returns-in-Failed-clause-left g c =
    step_leaves c.args.self.now c.turn-acted.new.self c.requires.core c.plans_are_accepted.ensures c.args.k (Failed c.in-Failed.place) c.in-Failed.ensures.turn c.min-self.result (lesser g c) _ (stays g c)

module _ (g : Over) (c : goal.In_default g) where
  none_failed : (word : Option Place) → IsWord word c.args.self.now.word → IsWord (word_by c.turn-acted.result word) c.args.self.now.word
  none_failed word is = word_stays c.turn-acted.result (λ place same. c.in_default.not-Failed place same) c.args.self.now.word word is

pub returns-in_default : goal.returns-in_default
returns-in_default g c =
    let old = c.args.self.now in
    let mid = c.turn-acted.new.self in
    let acted = c.turn-acted.result in
    let accepted = c.plans_are_accepted.ensures in
    let turn = c.turn-acted.ensures.turn in
    let words = none_failed g c in
    let is = c.turn-acted.ensures.stays in
    record {
      core = step_core old mid c.requires.core accepted c.args.k acted turn old.word words mid is;
      run = ap given_of is;
      stepped = step_stepped old mid c.requires.core accepted c.args.k acted turn old.word words mid is;
      commits = step_commits old mid c.requires.core accepted c.args.k acted turn old.word words mid is;
      answer = step_tells old mid c.requires.core accepted c.args.k acted turn old.word words mid is;
      left = step_leaves old mid c.requires.core accepted c.args.k acted turn old.word words mid is;
    }
