-- `coarse_part` meets its contract: a case for each constant, and past them none.
use Rattle.number_exponential.specs.Exponential.{constant_lower}
use Rattle.number_exponential.specs.Units.{billionths, whole_parts}
use Rattle.number_exp_constants.proofs.Cases.{of, past}
use Rattle.number_exp_constants.proofs.coarse_part.Goals as goal

pub returns-in-0 : goal.returns-in-0
unfolding constant_lower whole_parts
returns-in-0 c = of billionths c.in-0.is

pub returns-in-1 : goal.returns-in-1
unfolding constant_lower whole_parts
returns-in-1 c = of billionths c.in-1.is

pub returns-in-2 : goal.returns-in-2
unfolding constant_lower whole_parts
returns-in-2 c = of billionths c.in-2.is

pub returns-in-3 : goal.returns-in-3
unfolding constant_lower whole_parts
returns-in-3 c = of billionths c.in-3.is

pub returns-in-4 : goal.returns-in-4
unfolding constant_lower whole_parts
returns-in-4 c = of billionths c.in-4.is

pub returns-in-5 : goal.returns-in-5
unfolding constant_lower whole_parts
returns-in-5 c = of billionths c.in-5.is

pub returns-in-6 : goal.returns-in-6
unfolding constant_lower whole_parts
returns-in-6 c = of billionths c.in-6.is

pub returns-in-7 : goal.returns-in-7
unfolding constant_lower whole_parts
returns-in-7 c = of billionths c.in-7.is

pub returns-in-8 : goal.returns-in-8
unfolding constant_lower whole_parts
returns-in-8 c = of billionths c.in-8.is

pub returns-in-9 : goal.returns-in-9
unfolding constant_lower whole_parts
returns-in-9 c = of billionths c.in-9.is

pub returns-in-10 : goal.returns-in-10
unfolding constant_lower whole_parts
returns-in-10 c = of billionths c.in-10.is

pub returns-in-11 : goal.returns-in-11
unfolding constant_lower whole_parts
returns-in-11 c = of billionths c.in-11.is

pub returns-in-12 : goal.returns-in-12
unfolding constant_lower whole_parts
returns-in-12 c = of billionths c.in-12.is

pub returns-in-13 : goal.returns-in-13
unfolding constant_lower whole_parts
returns-in-13 c = of billionths c.in-13.is

pub returns-in-14 : goal.returns-in-14
unfolding constant_lower whole_parts
returns-in-14 c = of billionths c.in-14.is

pub returns-in-15 : goal.returns-in-15
unfolding constant_lower whole_parts
returns-in-15 c = of billionths c.in-15.is

pub returns-in-16 : goal.returns-in-16
unfolding constant_lower whole_parts
returns-in-16 c = of billionths c.in-16.is

pub returns-in-17 : goal.returns-in-17
unfolding constant_lower whole_parts
returns-in-17 c = of billionths c.in-17.is

pub returns-in-18 : goal.returns-in-18
unfolding constant_lower whole_parts
returns-in-18 c = of billionths c.in-18.is

pub returns-in-19 : goal.returns-in-19
unfolding constant_lower whole_parts
returns-in-19 c = of billionths c.in-19.is

pub returns-in-20 : goal.returns-in-20
unfolding constant_lower whole_parts
returns-in-20 c = of billionths c.in-20.is

pub returns-in-21 : goal.returns-in-21
unfolding constant_lower whole_parts
returns-in-21 c = of billionths c.in-21.is

pub returns-in-22 : goal.returns-in-22
unfolding constant_lower whole_parts
returns-in-22 c = of billionths c.in-22.is

pub returns-in-23 : goal.returns-in-23
unfolding constant_lower whole_parts
returns-in-23 c = of billionths c.in-23.is

pub returns-in-24 : goal.returns-in-24
unfolding constant_lower whole_parts
returns-in-24 c = of billionths c.in-24.is

pub returns-in-25 : goal.returns-in-25
unfolding constant_lower whole_parts
returns-in-25 c = of billionths c.in-25.is

pub returns-in-26 : goal.returns-in-26
unfolding constant_lower whole_parts
returns-in-26 c = of billionths c.in-26.is

pub returns-in-27 : goal.returns-in-27
unfolding constant_lower whole_parts
returns-in-27 c = of billionths c.in-27.is

pub returns-in-28 : goal.returns-in-28
unfolding constant_lower whole_parts
returns-in-28 c = of billionths c.in-28.is

pub returns-in-29 : goal.returns-in-29
unfolding constant_lower whole_parts
returns-in-29 c = of billionths c.in-29.is

pub returns-in-30 : goal.returns-in-30
unfolding constant_lower whole_parts
returns-in-30 c = of billionths c.in-30.is

pub returns-in-31 : goal.returns-in-31
unfolding constant_lower whole_parts
returns-in-31 c = of billionths c.in-31.is

pub returns-in-32 : goal.returns-in-32
unfolding constant_lower whole_parts
returns-in-32 c = of billionths c.in-32.is

pub returns-in-33 : goal.returns-in-33
unfolding constant_lower whole_parts
returns-in-33 c = of billionths c.in-33.is

pub returns-in-34 : goal.returns-in-34
unfolding constant_lower whole_parts
returns-in-34 c = of billionths c.in-34.is

pub returns-in-35 : goal.returns-in-35
unfolding constant_lower whole_parts
returns-in-35 c = of billionths c.in-35.is

pub returns-in-36 : goal.returns-in-36
unfolding constant_lower whole_parts
returns-in-36 c = of billionths c.in-36.is

pub returns-in-37 : goal.returns-in-37
unfolding constant_lower whole_parts
returns-in-37 c = of billionths c.in-37.is

pub returns-in-38 : goal.returns-in-38
unfolding constant_lower whole_parts
returns-in-38 c = of billionths c.in-38.is

pub returns-in-39 : goal.returns-in-39
unfolding constant_lower whole_parts
returns-in-39 c = of billionths c.in-39.is

pub returns-in-40 : goal.returns-in-40
unfolding constant_lower whole_parts
returns-in-40 c = of billionths c.in-40.is

pub returns-in-41 : goal.returns-in-41
unfolding constant_lower whole_parts
returns-in-41 c = of billionths c.in-41.is

pub returns-in_default : goal.returns-in_default
unfolding constant_lower whole_parts
returns-in_default c = past billionths _ c.in_default.in_default-own.rest
