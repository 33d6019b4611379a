use Rattle.std.proofs.{Common.{arith, inl, inr}, lemmas.Bool.{ltb-true}}
use Rattle.row_facts.proofs.OperatorLaws.{lower-add, lower-sub, lower-mul, lower-or, lower-and, lower-xor, lower-mov}
use Rattle.row_facts.proofs.OperatorLaws.{lower-lsh}
use Rattle.row_facts.proofs.arithmetic.is_lower_half.Goals as goal

pub returns-in-Add : goal.returns-in-Add
returns-in-Add c is x y within =
    elim c.in-Add.is [
      | inl e ↦ rw e (lower-add x y)
      | inr r ↦ elim r [
        | inl e ↦ rw e (lower-sub x y)
        | inr r ↦ elim r [
          | inl e ↦ rw e (lower-mul x y)
          | inr r ↦ elim r [
            | inl e ↦ rw e (lower-or x y)
            | inr r ↦ elim r [
              | inl e ↦ rw e (lower-and x y)
              | inr r ↦ elim r [
                | inl e ↦ rw e (lower-xor x y)
                | inr e ↦ rw e (lower-mov x y)
              ]
            ]
          ]
        ]
      ]
    ]

pub returns-in-Lsh : goal.returns-in-Lsh
returns-in-Lsh c is x y within = rw c.in-Lsh.is
    (lower-lsh x y (omega (arith, ltb-true c.hi.result 32 is, within.below, c.hi.ensures.number)))
