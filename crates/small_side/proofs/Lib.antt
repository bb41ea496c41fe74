-- Laws about orders as one number, about sorting four of them, and about volumes added up from the best one down and their count.
pub mod Orders
pub mod Sums
