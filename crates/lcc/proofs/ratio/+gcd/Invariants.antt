use Rattle.lcc.proofs.ratio.+gcd.Given as goal

-- the second number falls from call to call
abbrev pub decreases-gcd : goal.decreases-gcd
decreases-gcd l = l.b
