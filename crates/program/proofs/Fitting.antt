-- A program's numbers are in range. Assumes nothing.
use Rattle.std.proofs.Common.{ℕ, suc, ◌+◌, ◌<◌, ◌≤◌, List, [], ◌∷◌, ◌++◌, arith}
use Rattle.theory.specs.Pattern.{Pattern, leaf, many, plus, eps, seq, alt, opt, star, head, tail}
use Rattle.theory.specs.Passes.{stars}
use Rattle.program.specs.declared.Step.{Step}
use Rattle.program.specs.Numbered.{leaves, Classed}
use Rattle.program.specs.Compile.{feeds_at, classes_at, unions, unions_into, depth, depth_into, steps, into, rows_for, stars_at, Within, Each, ProgramFits}

each_append : (P : Step → Type 0) (p q : List Step) → Each P p → Each P q → Each P (p ++ q)
each_append P [] q a b = b
each_append P (s ∷ p) q a b = (a.0, each_append P p q a.1 b)

module _ (n rows carries from to : ℕ) (behind : classes_at + n ≤ from) where
  abbrev In : List Step → Type 0
  In p = Each (Within rows carries from to) p

  -- what the numbers from k, s, a and d on leave room for
  record Room (F : Pattern) (k s a d : ℕ) (deep own : ℕ) : Type 0 where
    pub classed : Classed n F
    pub first : from ≤ s
    pub last : s + stars F ≤ to
    pub past : to ≤ a
    pub saved : d + deep ≤ feeds_at
    pub gathering : a + own ≤ rows
    pub carried : k + leaves F ≤ carries

  mutual
    fits : (F : Pattern) (k s a d : ℕ) → Room F k s a d (depth F) (unions F) → In (steps F k s a d)
    fits (leaf c) k s a d R = let h = R.classed in ((omega (arith, R.first, R.last, R.past, R.gathering), omega (arith, R.carried)), tt)
    fits (many c) k s a d R = let h = R.classed in ((omega (arith, R.first, R.last, R.past, R.gathering), omega (arith, R.carried)), tt)
    fits (plus c) k s a d R = let h = R.classed in ((omega (arith, R.first, R.last, R.past, R.gathering), omega (arith, R.carried)), tt)
    fits eps k s a d R = tt
    fits (seq F G) k s a d R =
        let h = R.classed in
        let r1 = R.first in
        let r2 = R.last in
        let r6 = R.past in
        let r3 = R.saved in
        let r4 = R.gathering in
        let r5 = R.carried in
        each_append (Within rows carries from to) (steps F k s a d) (steps G (k + leaves F) (s + stars F) (a + unions F) d)
        (fits F k s a d
        (record {
          classed = h.0;
          first = r1;
          last = omega arith;
          past = omega arith;
          saved = omega arith;
          gathering = omega arith;
          carried = omega arith;
        }))
        (fits G (k + leaves F) (s + stars F) (a + unions F) d
        (record {
          classed = h.1;
          first = omega arith;
          last = omega arith;
          past = omega arith;
          saved = omega arith;
          gathering = omega arith;
          carried = omega arith;
        }))
    fits (alt F G) k s a d R =
        let h = R.classed in
        let r1 = R.first in
        let r2 = R.last in
        let r6 = R.past in
        let r3 = R.saved in
        let r4 = R.gathering in
        let r5 = R.carried in (
          omega arith,
          each_append (Within rows carries from to) (steps F k s (suc a) (suc d)) _
              (fits F k s (suc a) (suc d)
              (record {
                classed = h.0;
                first = r1;
                last = omega arith;
                past = omega arith;
                saved = omega arith;
                gathering = omega arith;
                carried = omega arith;
              })) (
                omega arith,
                (
                  omega arith,
                  each_append (Within rows carries from to) (into G (k + leaves F) (s + stars F) (suc (a + unions F)) d a) _
                      (fits_into G (k + leaves F) (s + stars F) (suc (a + unions F)) d a
                      (record {
                        classed = h.1;
                        first = omega arith;
                        last = omega arith;
                        past = omega arith;
                        saved = omega arith;
                        gathering = omega arith;
                        carried = omega arith;
                      }) (omega arith) (omega arith))
                      (omega arith, tt),
                ),
              ),
        )
    fits (opt F) k s a d R =
        let h = R.classed in
        let r1 = R.first in
        let r2 = R.last in
        let r6 = R.past in
        let r3 = R.saved in
        let r4 = R.gathering in
        let r5 = R.carried in (
          omega arith,
          each_append (Within rows carries from to) (into F k s (suc a) d a) _
              (fits_into F k s (suc a) d a
              (record {
                classed = h;
                first = r1;
                last = omega arith;
                past = omega arith;
                saved = r3;
                gathering = omega arith;
                carried = r5;
              }) (omega arith) (omega arith))
              (omega arith, tt),
        )
    fits (star F) k s a d R =
        let h = R.classed in
        let r1 = R.first in
        let r2 = R.last in
        let r6 = R.past in
        let r3 = R.saved in
        let r4 = R.gathering in
        let r5 = R.carried in (
          omega arith,
          (
            omega arith,
            each_append (Within rows carries from to) (steps F k (suc s) a d) _
                (fits F k (suc s) a d
                (record {
                  classed = h;
                  first = omega arith;
                  last = omega arith;
                  past = omega arith;
                  saved = r3;
                  gathering = r4;
                  carried = r5;
                }))
                (omega arith, (omega arith, tt)),
          ),
        )
    fits head k s a d R = (omega (arith, R.first, R.last, R.past, R.gathering), tt)
    fits tail k s a d R = (omega (arith, R.first, R.last, R.past, R.gathering), tt)

    fits_into : (F : Pattern) (k s a d r : ℕ) → Room F k s a d (depth_into F) (unions_into F) → to ≤ r → r < a → In (into F k s a d r)
    fits_into (leaf c) k s a d r R g l =
        let h = R.classed in
        ((omega (arith, R.first, R.last, R.past, R.gathering), omega (arith, R.carried)), (omega (arith, R.gathering), tt))
    fits_into (many c) k s a d r R g l =
        let h = R.classed in
        ((omega (arith, R.first, R.last, R.past, R.gathering), omega (arith, R.carried)), (omega (arith, R.gathering), tt))
    fits_into (plus c) k s a d r R g l =
        let h = R.classed in
        ((omega (arith, R.first, R.last, R.past, R.gathering), omega (arith, R.carried)), (omega (arith, R.gathering), tt))
    fits_into eps k s a d r R g l = (omega (arith, R.gathering), tt)
    fits_into (seq F G) k s a d r R g l =
        let h = R.classed in
        let r1 = R.first in
        let r2 = R.last in
        let r6 = R.past in
        let r3 = R.saved in
        let r4 = R.gathering in
        let r5 = R.carried in
        each_append (Within rows carries from to) (steps F k s a d) (into G (k + leaves F) (s + stars F) (a + unions F) d r)
        (fits F k s a d
        (record {
          classed = h.0;
          first = r1;
          last = omega arith;
          past = omega arith;
          saved = omega arith;
          gathering = omega arith;
          carried = omega arith;
        }))
        (fits_into G (k + leaves F) (s + stars F) (a + unions F) d r
        (record {
          classed = h.1;
          first = omega arith;
          last = omega arith;
          past = omega arith;
          saved = omega arith;
          gathering = omega arith;
          carried = omega arith;
        }) (omega arith) (omega arith))
    fits_into (alt F G) k s a d r R g l =
        let h = R.classed in
        let r1 = R.first in
        let r2 = R.last in
        let r6 = R.past in
        let r3 = R.saved in
        let r4 = R.gathering in
        let r5 = R.carried in (
          omega arith,
          each_append (Within rows carries from to) (into F k s a (suc d) r) _
              (fits_into F k s a (suc d) r
              (record {
                classed = h.0;
                first = r1;
                last = omega arith;
                past = omega arith;
                saved = omega arith;
                gathering = omega arith;
                carried = omega arith;
              }) g l) (
                omega arith,
                fits_into G (k + leaves F) (s + stars F) (a + unions_into F) d r
                    (record {
                      classed = h.1;
                      first = omega arith;
                      last = omega arith;
                      past = omega arith;
                      saved = omega arith;
                      gathering = omega arith;
                      carried = omega arith;
                    }) (omega arith) (omega arith),
              ),
        )
    fits_into (opt F) k s a d r R g l =
        let r4 = R.gathering in (
          omega arith,
          fits_into F k s a d r
              (record {
                classed = R.classed;
                first = R.first;
                last = R.last;
                past = R.past;
                saved = R.saved;
                gathering = r4;
                carried = R.carried;
              }) g l,
        )
    fits_into (star F) k s a d r R g l =
        let h = R.classed in
        let r1 = R.first in
        let r2 = R.last in
        let r6 = R.past in
        let r3 = R.saved in
        let r4 = R.gathering in
        let r5 = R.carried in (
          omega arith,
          (
            omega arith,
            each_append (Within rows carries from to) (steps F k (suc s) a d) _
                (fits F k (suc s) a d
                (record {
                  classed = h;
                  first = omega arith;
                  last = omega arith;
                  past = omega arith;
                  saved = r3;
                  gathering = r4;
                  carried = r5;
                }))
                (omega arith, (omega arith, (omega arith, tt))),
          ),
        )
    fits_into head k s a d r R g l = (omega (arith, R.first, R.last, R.past, R.gathering), (omega (arith, R.gathering), tt))
    fits_into tail k s a d r R g l = (omega (arith, R.first, R.last, R.past, R.gathering), (omega (arith, R.gathering), tt))

pub program_fits : ProgramFits
program_fits n F classed dp =
    fits n (rows_for n F) (leaves F) (stars_at n) (stars_at n + stars F) (omega arith) F 0 (stars_at n) (stars_at n + stars F) 0
    (record {
      classed = classed;
      first = omega arith;
      last = omega arith;
      past = omega arith;
      saved = omega arith;
      gathering = omega arith;
      carried = omega arith;
    })
