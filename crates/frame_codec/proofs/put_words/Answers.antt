-- Each turn puts the word that the call made of the value.
use Rattle.std.proofs.Common.{◌≡◌, ◌≤◌, map, length, get_or, sym, refl, ◌∙◌, subst, add-one, arith, take_all}
use lib.ListN.{length-map, get_or-map}
use Rattle.lta_spec.proofs.WordLaws.{splice-nil, length-splice}
use Rattle.frame_codec.proofs.Laws.{put_next}
use Rattle.frame_codec.proofs.put_words.Goals as goal

pub loop-i-init : goal.loop-i-init
loop-i-init g c = record { long = refl; put = λ f m. sym (splice-nil _ _) }

pub loop-i-preserved : goal.loop-i-preserved
loop-i-preserved g c = record {
  long = rw c.put_word.ensures (length-splice c.loop-i.s _ _) ∙ c.loop-i.auto.s;
  put = λ f m.
      let a = c.args in
      let xs = a.values.now in
      let i = c.loop-i.i in
      let x = c.index-values-i in
      let called = subst (λ v. goal.F-post g a.word v c.word.result) x.is c.word.ensures in
      let w : c.word.result ≡ get_or (map f xs) i (f x.result) =
      m i x.result c.loop-i-test.true c.word.result called ∙ sym (get_or-map f xs i x.result) in
      c.put_word.ensures
      ∙ rw (c.loop-i.invariant.put f m, w, add-one)
      (put_next a.s.now a.k (map f xs) i _ (omega (arith, c.loop-i-test.true, length-map xs f)));
}

pub returns : goal.returns
returns g c f m =
    let ws = map f c.args.values.now in
    let all : length ws ≤ c.loop-i.i = omega (arith, c.loop-i-test.false, length-map c.args.values.now f) in
    c.loop-i.invariant.put f m ∙ rw (take_all c.loop-i.i ws all)
