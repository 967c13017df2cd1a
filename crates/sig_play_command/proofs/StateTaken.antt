-- What a sink took of the text of a state.
use Rattle.sig_play_command.proofs.Common.{◌≡◌, ◌++◌, ℕ, ℤ, List, length, refl, ap, subst, Option, None, Some, codes, flat_map, Place, Shows, length_in, state_in, ActorState, Actor, Core as ModelCore, TookOf, actor_line, actor_pieces, lines_from, link_line, link_pieces, state_text, word_line, Joins, TookPrefix, TookPrefix-longer, TookPrefix-then, same_Some}
use Rattle.sig_interleaving.specs.declared.state.Core.{Core}

-- ---- actors and links that a core tells of

pub actor_there : (o : Option Actor) (state : ActorState) → Some state ≡ state_in o
    → (actor : Actor) × (o ≡ Some actor) × ((k : ℕ) → flat_map (λ piece. piece) (actor_pieces k state.instant state.step state.ended) ≡ actor_line k actor)
actor_there None state is = absurd (let e : Some state ≡ None = is in cc)
actor_there (Some actor) state is =
    let same = same_Some state (record { instant = actor.instant; step = actor.step; ended = actor.ended }) is in
    (actor, refl, λ k. ap (λ (s : ActorState). flat_map (λ piece. piece) (actor_pieces k s.instant s.step s.ended)) same)

pub link_there : (o : Option (List ℤ)) (count : ℕ) → Some count ≡ length_in o
    → (items : List ℤ) × (o ≡ Some items) × ((j : ℕ) → flat_map (λ piece. piece) (link_pieces j count) ≡ link_line j items)
link_there None count is = absurd (let e : Some count ≡ None = is in cc)
link_there (Some items) count is =
    let same = same_Some count (length items) is in
    (items, refl, λ j. ap (λ n. flat_map (λ piece. piece) (link_pieces j n)) same)

-- ---- the parts of the text, one after another

module _ {S : Type 0} (took : S → List ℕ → S → Type 0) (joins : Joins took) (c : Core) where
  abbrev begin : List ℕ
  begin = codes "events done\n"

  abbrev actors : ModelCore → List ℕ
  actors m = lines_from actor_line 0 m.actors

  abbrev links : ModelCore → List ℕ
  links m = lines_from link_line 0 m.links

  abbrev end : List ℕ
  end = codes "finish\n"

  pub part_begin : (s0 s1 : S) → TookPrefix took s0 (codes "events done\n") s1 → TookOf (TookPrefix took) c state_text s0 s1
  part_begin s0 s1 one m shows = TookPrefix-longer took s0 s1 begin (actors m ++ (links m ++ (word_line m.word ++ end))) one

  module _ (s0 s1 : S) (one : took s0 (codes "events done\n") s1) where
    pub part_actors : (s2 : S) → TookOf (TookPrefix took) c (λ m. lines_from actor_line 0 m.actors) s1 s2 → TookOf (TookPrefix took) c state_text s0 s2
    part_actors s2 two m shows =
        TookPrefix-then took joins s0 s1 s2 begin (actors m ++ (links m ++ (word_line m.word ++ end))) one
        (TookPrefix-longer took s1 s2 (actors m) (links m ++ (word_line m.word ++ end)) (two m shows))

    module _ (s2 : S) (two : TookOf took c (λ m. lines_from actor_line 0 m.actors) s1 s2) where
      pub part_links : (s3 : S) → TookOf (TookPrefix took) c (λ m. lines_from link_line 0 m.links) s2 s3 → TookOf (TookPrefix took) c state_text s0 s3
      part_links s3 three m shows =
          TookPrefix-then took joins s0 s1 s3 begin (actors m ++ (links m ++ (word_line m.word ++ end))) one
          (TookPrefix-then took joins s1 s2 s3 (actors m) (links m ++ (word_line m.word ++ end)) (two m shows)
          (TookPrefix-longer took s2 s3 (links m) (word_line m.word ++ end) (three m shows)))

      module _ (s3 : S) (three : TookOf took c (λ m. lines_from link_line 0 m.links) s2 s3) (word : Option Place) (words : (m : ModelCore) → Shows m c → word ≡ m.word) where
        pub part_word : (s4 : S) → TookPrefix took s3 (word_line word) s4 → TookOf (TookPrefix took) c state_text s0 s4
        part_word s4 four m shows =
            TookPrefix-then took joins s0 s1 s4 begin (actors m ++ (links m ++ (word_line m.word ++ end))) one
            (TookPrefix-then took joins s1 s2 s4 (actors m) (links m ++ (word_line m.word ++ end)) (two m shows)
            (TookPrefix-then took joins s2 s3 s4 (links m) (word_line m.word ++ end) (three m shows)
            (TookPrefix-longer took s3 s4 (word_line m.word) end (subst (λ o. TookPrefix took s3 (word_line o) s4) (words m shows) four))))

        module _ (s4 : S) (four : took s3 (word_line word) s4) where
          pub part_end : (s5 : S) → TookPrefix took s4 (codes "finish\n") s5 → TookOf (TookPrefix took) c state_text s0 s5
          part_end s5 five m shows =
              TookPrefix-then took joins s0 s1 s5 begin (actors m ++ (links m ++ (word_line m.word ++ end))) one
              (TookPrefix-then took joins s1 s2 s5 (actors m) (links m ++ (word_line m.word ++ end)) (two m shows)
              (TookPrefix-then took joins s2 s3 s5 (links m) (word_line m.word ++ end) (three m shows)
              (TookPrefix-then took joins s3 s4 s5 (word_line m.word) end (subst (λ o. took s3 (word_line o) s4) (words m shows) four) five)))

          pub whole_state : (s5 : S) → took s4 (codes "finish\n") s5 → TookOf took c state_text s0 s5
          whole_state s5 five m shows =
              joins s0 s1 s5 begin (actors m ++ (links m ++ (word_line m.word ++ end))) one
              (joins s1 s2 s5 (actors m) (links m ++ (word_line m.word ++ end)) (two m shows)
              (joins s2 s3 s5 (links m) (word_line m.word ++ end) (three m shows)
              (joins s3 s4 s5 (word_line m.word) end (subst (λ o. took s3 (word_line o) s4) (words m shows) four) five)))
