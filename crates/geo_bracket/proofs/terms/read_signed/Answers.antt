use Rattle.std.proofs.Common.{rules, ◌≡◌, refl, sym, subst, ◌+◌, ◌-◌, ◌++◌, [], ◌∷◌, take, drop, length, option_map, None, Some}
use Rattle.std.specs.Prelude.{slice_get}
use Rattle.std.proofs.lemmas.List.{take_rest}
use Rattle.std.proofs.lemmas.Option.{slice_get_past, slice_get_read}
use Rattle.geo_parse.specs.Words.{texts}
use Rattle.geo_bracket.specs.Grammar.{term_of, terms_between}
use Rattle.geo_bracket.proofs.SignLemmas.{last_one, no_last, none_more, one_more}
use Rattle.geo_bracket.proofs.terms.read_signed.Goals as goal

pub returns-in-None : goal.returns-in-None
returns-in-None c =
    let found : slice_get c.loop-sign.rest.now c.loop-sign.end ≡ Some c.in-Some.sign.now = slice_get_read c.loop-sign.rest.now (length c.loop-sign.rest.now) c.loop-sign.end c.in-Some.sign.now refl c.in-Some.ensures.lookup.3.0 c.in-Some.ensures.lookup.1 in
    let none : term_of c.loop-sign.negative (texts (take c.loop-sign.end c.loop-sign.rest.now)) ≡ None = search rules in
    none_more c.loop-sign.negative c.loop-sign.rest.now c.loop-sign.end c.loop-sign.terms.items (terms_between c.args.minus (texts c.args.words.now)) c.loop-sign.invariant.place c.loop-sign.invariant.read c.in-Some.sign.now found none

pub loop-sign-preserved : goal.loop-sign-preserved
loop-sign-preserved c =
    let rest = c.loop-sign.rest.now in
    let whole = terms_between c.args.minus (texts c.args.words.now) in
    let behind = take (length rest - (c.loop-sign.end + 1)) (drop (c.loop-sign.end + 1) rest) in
    let found : slice_get c.loop-sign.rest.now c.loop-sign.end ≡ Some c.in-Some.sign.now = slice_get_read c.loop-sign.rest.now (length c.loop-sign.rest.now) c.loop-sign.end c.in-Some.sign.now refl c.in-Some.ensures.lookup.3.0 c.in-Some.ensures.lookup.1 in
    let read : term_of c.loop-sign.negative (texts (take c.loop-sign.end c.loop-sign.rest.now)) ≡ Some c.in-Some-2.term = search rules in
    let same : c.push.new.self.items ≡ c.loop-sign.terms.items ++ c.in-Some-2.term ∷ [] = search rules in
    record {
      read =
          subst (λ m. option_map (λ vs. c.push.new.self.items ++ vs) (terms_between m (texts behind)) ≡ whole) (sym c.is_minus-negative.ensures)
          (one_more c.loop-sign.negative rest c.loop-sign.end c.loop-sign.terms.items whole c.loop-sign.invariant.place c.loop-sign.invariant.read c.in-Some.sign.now found c.in-Some-2.term c.push.new.self.items behind same (take_rest rest (c.loop-sign.end + 1)) read);
      place = c.count_before_sign-end-in-Some.ensures.count;
      within = c.count_before_sign-end-in-Some.ensures.within;
    }

pub returns-in-None-2 : goal.returns-in-None-2
returns-in-None-2 c =
    let past : slice_get c.loop-sign.rest.now c.loop-sign.end ≡ None = slice_get_past c.loop-sign.rest.now c.loop-sign.end c.in_default.ensures.lookup.3 in
    let none : term_of c.loop-sign.negative (texts c.loop-sign.rest.now) ≡ None = search rules in
    no_last c.loop-sign.negative c.loop-sign.rest.now c.loop-sign.end c.loop-sign.terms.items (terms_between c.args.minus (texts c.args.words.now)) c.loop-sign.invariant.place c.loop-sign.invariant.read past none

pub returns : goal.returns
returns c =
    let past : slice_get c.loop-sign.rest.now c.loop-sign.end ≡ None = slice_get_past c.loop-sign.rest.now c.loop-sign.end c.in_default.ensures.lookup.3 in
    let read : term_of c.loop-sign.negative (texts c.loop-sign.rest.now) ≡ Some c.in-Some-3.term = search rules in
    let same : c.push-in-Some-3.new.self.items ≡ c.loop-sign.terms.items ++ c.in-Some-3.term ∷ [] = search rules in
    last_one c.loop-sign.negative c.loop-sign.rest.now c.loop-sign.end c.loop-sign.terms.items (terms_between c.args.minus (texts c.args.words.now)) c.loop-sign.invariant.place c.loop-sign.invariant.read past c.in-Some-3.term c.push-in-Some-3.new.self.items same read
