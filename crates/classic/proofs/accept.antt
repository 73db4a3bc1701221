mod Roles
