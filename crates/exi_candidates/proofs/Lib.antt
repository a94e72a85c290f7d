mod Least
mod Members
mod Firsts
