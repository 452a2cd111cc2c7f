pub mod Scouted
