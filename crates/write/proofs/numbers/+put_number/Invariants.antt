use Rattle.write.proofs.numbers.+put_number.Given as goal

-- the number falls from call to call
abbrev pub decreases-put_number : goal.decreases-put_number
decreases-put_number l = l.n
